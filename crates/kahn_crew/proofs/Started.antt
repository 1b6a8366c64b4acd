-- Idle jobs become tasks, and the board is made of them.
use Rattle.kahn_crew.proofs.Common.{none-some, same_Some, arith, ◌≡◌, ℕ, zero, suc, ◌+◌, ◌<◌, ◌≤◌, ◌^◌, List, [], ◌∷◌, ◌++◌, length, map, refl, sym, ap, ◌∙◌, subst, true, false, Option, Some, None, slice_get, slice_index, slice_index_or, some, some-injective, some-ne-none, get_elem?, length-map, option_map, slice_get-map, slice_get_read, Program, Side, Writes, network_of, instance_at, actual_at, role_at, IsOnly, IsWriter, IsWellWired, side_at, Lists, inputs_of, is_output, Joins, count, AreCounts, Serves, end_at, IsDelivered, Work, events_told, Opens, wires, Terms, SeatView, woken_task, Tasked, AreReadyTasks, HasBegun, IsNumber, IsReadyTask, FitTogether, AgreesWith, IsLater, IsPublished, task_rows, told_tale, AreJoinedOn, spent}
use Rattle.kahn_streams.specs.declared.tree.Role.TheVariants.{Input}
use Rattle.kahn_job.specs.{inner.Idles.AreIdle, inner.Idles.CanGoOn, inner.Idles.HaveSettled, inner.Idles.rows_of}
use Rattle.kahn_job.proofs.{Idles.idle_goes_on, Idles.row_there, Settles.stood_same}
use Rattle.kahn_crew.proofs.{Publishing.handed_is, Resting.flushed_all, Resting.continues_here, Resting.published_is, Wirings.channels_are, Wirings.instances_are}
use Rattle.kahn_streams.proofs.Sourced
pub use Rattle.kahn_streams.proofs.By_number.{mapped_at}

-- ---- lists

pub at_both : {A : Type 0} (xs : List A) (p : ℕ) (x : A) → get_elem? xs p ≡ some x → slice_get xs p ≡ Some x
at_both [] p x e = absurd (some-ne-none x (sym e))
at_both (y ∷ ys) zero x e = ap Some (some-injective y x e)
at_both (y ∷ ys) (suc p) x e = at_both ys p x e

pub both_at : {A : Type 0} (xs : List A) (p : ℕ) (x : A) → slice_get xs p ≡ Some x → get_elem? xs p ≡ some x
both_at [] p x e = absurd (none-some _ e)
both_at (y ∷ ys) zero x e = ap some (same_Some _ _ e)
both_at (y ∷ ys) (suc p) x e = both_at ys p x e

pub at_mapped : {A B : Type 0} (f : A → B) (xs : List A) (p : ℕ) (x : A) → slice_get xs p ≡ Some x → slice_get (map f xs) p ≡ Some (f x)
at_mapped f xs p x e = slice_get-map f xs p ∙ ap (option_map f) e

pub middle_at : {A : Type 0} (before after : List A) (x : A) → slice_get (before ++ x ∷ after) (length before) ≡ Some x
middle_at [] after x = refl
middle_at (b ∷ before) after x = middle_at before after x

-- one did no more than all
pub at_most_all : (xs : List Tasked) (p : ℕ) (x : Tasked) → slice_get xs p ≡ Some x → x.work.cell.events ≤ events_told told_tale xs
at_most_all [] p x e = absurd (none-some _ e)
at_most_all (y ∷ xs) zero x e =
    let s : y.work.cell.events ≡ x.work.cell.events = ap (λ (z : Tasked). z.work.cell.events) (same_Some _ _ e) in
    omega (arith, s)
at_most_all (y ∷ xs) (suc p) x e = let r : x.work.cell.events ≤ events_told told_tale xs = at_most_all xs p x e in omega (arith, r)

-- ---- idle jobs become tasks

rows_woken : (lists : Lists) (ws : List Work) → task_rows (map (woken_task lists) ws) ≡ rows_of ws
rows_woken lists [] = refl
rows_woken lists (w ∷ ws) = ap (λ rows. w.ends ∷ rows) (rows_woken lists ws)

module _ (t : Program) (lists : Lists) (ws : List Work) (idle : AreIdle t lists ws) (settled : HaveSettled t lists (rows_of ws)) where
  pub goes_on : (p : ℕ) (w : Work) → slice_get ws p ≡ Some w → CanGoOn lists w
  goes_on = idle_goes_on t lists ws idle ws refl (λ p q. stood_same _ _ refl) settled

  writes_there : (w : Work) → CanGoOn lists w → (q d : ℕ) → actual_at (instance_at (network_of w.cell.network) w.cell.instance) q ≡ Writes d →
      is_output (role_at (network_of w.cell.network) d) ≡ false → (end_at w.ends q).writes ≡ true
  writes_there w x q d i o = (subst (λ a. Serves w.cell.network lists a (end_at w.ends q)) i (x.1.served.each q) o).0

  delivered : (p : ℕ) (w : Work) → slice_get ws p ≡ Some w → IsDelivered w
  delivered p w e q d i o =
      let x = goes_on p w e in
      let same = (idle.each p w e).network in
      let is = (idle.each p w e).instance in
      let at : actual_at (instance_at (network_of t) w.cell.instance) q ≡ Writes d = subst (λ k. actual_at (instance_at (network_of k) w.cell.instance) q ≡ Writes d) same i in
      let inner : is_output (role_at (network_of t) d) ≡ false = subst (λ k. is_output (role_at (network_of k) d) ≡ false) same o in
      let flushed = settled.flushed p q d (subst (λ n. actual_at (instance_at (network_of t) n) q ≡ Writes d) is at) inner in
      let row : slice_index_or (rows_of ws) p [] ≡ w.ends = row_there ws p w e in
      subst (λ es. (end_at es q).writes ≡ true → (end_at es q).flushed ≡ (end_at es q).next) row flushed (writes_there w x q d i o)
      ∙ x.1.at.writes q d i o

  pub woken_ready : (watch : Option ℕ) → ((p : ℕ) (w : Work) → slice_get ws p ≡ Some w → w.cell.watch ≡ watch) → AreReadyTasks t lists watch (map (woken_task lists) ws)
  woken_ready watch watched = record {
    count = length-map ws (woken_task lists) ∙ idle.count;
    each = λ p y e. let m = mapped_at (woken_task lists) ws p y e in subst (IsReadyTask t lists watch p) (sym m.2) (ready p m.0 m.1);
    joined = λ d. subst (λ rows. AreJoinedOn (network_of t) rows d) (sym (rows_woken lists ws)) (settled.joined d);
  }
    where
      ready : (p : ℕ) (w : Work) → slice_get ws p ≡ Some w → IsReadyTask t lists watch p (woken_task lists w)
      ready p w e = record {
        network = (idle.each p w e).network;
        input = refl;
        instance = (idle.each p w e).instance;
        watched = watched p w e;
        published = refl;
        delivered = delivered p w e;
      }

-- ---- how many tokens are published

module _ {t : Program} (wired : IsWellWired t) {lists : Lists} {watch : Option ℕ} {tasks : List Tasked} (f : AreReadyTasks t lists watch tasks) (c : ℕ) where
  pub number_given : role_at (network_of t) c ≡ Input → (n : ℕ) → n ≡ length (inputs_of lists c) → n < 2 ^ 48 → IsNumber t lists tasks c n
  number_given r n e few = record {
    given = λ x. e;
    sent = λ p o x at w inner. absurd ((Sourced.writes t wired p o c w).1 r);
    few = few;
  }

  -- the task of the writer is there
  writer_there : (s : Side) → IsOnly (IsWriter (network_of t) c) (Some s) → (y : Tasked) → y ≡ slice_index_or tasks s.instance y → slice_get tasks s.instance ≡ Some y
  writer_there s only y e = slice_get_read tasks (length tasks) s.instance y refl (let l = only.0.0.0 in let n = f.count in omega (arith, l, n)) e

  pub sent_there : (s : Side) → IsOnly (IsWriter (network_of t) c) (Some s) → (y : Tasked) → y ≡ slice_index_or tasks s.instance y → AreCounts y.work.cell →
      s.parameter < length y.work.cell.sent
  sent_there s only y is counts =
      let o = f.each s.instance y (writer_there s only y is) in
      let inside = only.0.0.1 in
      omega (arith, inside, counts.sent_size, ap (λ k. length (instance_at (network_of k) y.work.cell.instance).actuals) o.network, ap (λ n. length (instance_at (network_of t) n).actuals) o.instance)

  pub number_sent : (role_at (network_of t) c ≡ Input → ⊥) → (s : Side) → IsOnly (IsWriter (network_of t) c) (Some s) → (y : Tasked) → y ≡ slice_index_or tasks s.instance y →
      AreCounts y.work.cell → events_told told_tale tasks < 2 ^ 48 →
      (n : ℕ) → n ≡ count y.work.cell.sent s.parameter → IsNumber t lists tasks c n
  number_sent r s only y is counts small n e = record {
    given = λ i. absurd (r i);
    sent = λ p o x at w inner.
        let same : side_at p o ≡ s = only.1 (side_at p o) (Sourced.handed_within (network_of t) p o c (subst (λ a. Joins a c) (sym w) refl), w) in
        let one : x ≡ y = same_Some _ _ (sym at ∙ (ap (λ (u : Side). slice_get tasks u.instance) same ∙ writer_there s only y is)) in
        e ∙ (ap (λ (z : Tasked). count z.work.cell.sent s.parameter) (sym one) ∙ ap (λ (u : Side). count x.work.cell.sent u.parameter) (sym same));
    few =
        let here = writer_there s only y is in
        let o = f.each s.instance y here in
        let at = handed_is t wired y.work s.instance s.parameter o.network o.instance ∙ only.0.1 in
        let a = counts.sent_few s.parameter c at in
        let b = at_most_all tasks s.instance y here in
        omega (arith, a, b, e, small);
  }

  pub number_none : (role_at (network_of t) c ≡ Input → ⊥) → IsOnly (IsWriter (network_of t) c) None → IsNumber t lists tasks c 0
  number_none r none = record {
    given = λ i. absurd (r i);
    sent = λ p o x at w inner. absurd (none (side_at p o) (Sourced.handed_within (network_of t) p o c (subst (λ a. Joins a c) (sym w) refl), w));
    few = omega arith;
  }

-- ---- the board

module _ (t : Program) (wired : IsWellWired t) (lists : Lists) (watch : Option ℕ) (numbers : List ℕ) (tasks : List Tasked) (f : AreReadyTasks t lists watch tasks)
    (long : length numbers ≡ length (network_of t).channels)
    (each : (c : ℕ) → c < length numbers → IsNumber t lists tasks c (slice_index numbers c)) where
  abbrev known : SeatView
  known = record spent { flushed = numbers }

  inner_here : (p : ℕ) (y : Tasked) (c : ℕ) → IsReadyTask t lists watch p y → is_output (role_at (network_of y.work.cell.network) c) ≡ false → is_output (role_at (network_of t) c) ≡ false
  inner_here p y c o inner = subst (λ (k : Program). is_output (role_at (network_of k) c) ≡ false) o.network inner

  -- what an instance sent is what is published
  agrees : (p : ℕ) (y : Tasked) → slice_get tasks p ≡ Some y → AgreesWith y.work y.published numbers
  agrees p y e q c h inner =
      let o = f.each p y e in
      let at : actual_at (instance_at (network_of t) p) q ≡ Writes c = sym (handed_is t wired y.work p q o.network o.instance) ∙ h in
      let lt = Sourced.writes_listed t wired p q c at in
      let near : c < length numbers = omega (arith, long, lt) in
      ap (λ (xs : List ℕ). count xs q) o.published ∙ sym ((each c near).sent p q y e at (inner_here p y c o inner))

  published_too : (p : ℕ) (y : Tasked) → IsReadyTask t lists watch p y → (o : ℕ) → IsPublished y o
  published_too p y r o c h inner = ap (λ (xs : List ℕ). count xs o) r.published ∙ sym (r.delivered o c h inner)

  -- the board may be made of them
  pub opens : (bound : ℕ) → bound + events_told told_tale tasks < 2 ^ 48 → Opens told_tale IsLater (wires t) bound numbers tasks
  opens bound few = record {
    cells_are = f.count ∙ sym (instances_are t);
    numbers_are = long ∙ sym (channels_are t);
    small = λ c lt. let near : c < length numbers = omega (arith, lt, channels_are t, long) in (each c near).few;
    flushes = λ p c k y e told.
        let at = at_both tasks p y e in
        let o = f.each p y at in
        published_is t wired p y known (o.network, o.instance) (agrees p y at) (published_too p y o) c k told;
    flushed_all = λ p y e. let o = f.each p y (at_both tasks p y e) in flushed_all t wired y o.network o.delivered;
    selves = λ p y e. record { continues = continues_here y; published = published_too p y (f.each p y (at_both tasks p y e)) };
    few = few;
  }

-- ---- what all workers of a run share

pub fits_of : (t : Program) (lists : Lists) (watch : Option ℕ) (key : Terms Tasked) → HasBegun t lists watch key → (code : Program) → code ≡ t → FitTogether key t code lists
fits_of t lists watch key b code same = record {
  network = sym b.network;
  code = same ∙ sym b.network;
  count = b.ready.count ∙ (sym (instances_are t) ∙ ap (λ (k : Program). (wires k).instances) (sym b.network));
  cells = λ p x at. let o = b.ready.each p x (at_both key.cells.value.items p x at) in (o.network ∙ sym b.network, o.instance);
  given = λ p x at. (b.ready.each p x (at_both key.cells.value.items p x at)).input;
}
