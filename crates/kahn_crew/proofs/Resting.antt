-- A task that is set down.
use Rattle.kahn_crew.proofs.Common.{none-some, same_Some, arith, ◌≡◌, ◌⊎◌, inl, inr, ⊎_elim, ℕ, ◌+◌, ◌<◌, ◌^◌, List, refl, sym, ap, ◌∙◌, subst, Option, Some, None, slice_index, Program, Lists, Reads, Writes, network_of, instance_at, actual_at, role_at, IsWellWired, is_output, route_of, count, AreCounts, belongs, wired, wires, SeesMore, Terms, SeatView, Fits, Knows, end_at, Work, IsDelivered, FitTogether, IsTaskOf, IsDue, Tasked, Continues, HasStanding, AgreesWith, IsLater, IsPublished, count_on, handed_to_task, read_by, reads_at, told_tale, waits_on, writes_at, wrote_by, is_there, FlushedAll, flushed_of, second_of}
use Rattle.kahn_streams.proofs.Dry.{dry_reads}
use Rattle.kahn_crew.proofs.{Wirings.reads_first, Wirings.writes_first, Wirings.first_writes, Wirings.reader_is, Wirings.writer_is, Wirings.read_inside, Wirings.written_inside, Publishing.handed_is}
use Rattle.kahn_job.proofs.Berthed.{same_self, same_then}
use Rattle.kahn_job.specs.declared.task.TaskStanding.TheVariants as standing
use Rattle.kahn_crew.specs.declared.worker.Due.TheVariants as due

-- ---- later states

pub continues_here : (x : Tasked) → Continues x x
continues_here x = record {
  network = refl;
  input = refl;
  instance = refl;
  watch = refl;
  ends = record {
    count = refl;
    same = λ q. same_self (end_at x.work.ends q);
    flushed = λ q. omega arith;
  };
  events = omega arith;
  still = λ e. refl;
}

pub continues_still : (x y z : Tasked) → Continues x y → Continues y z → Continues x z
continues_still x y z a b = record {
  network = b.network ∙ a.network;
  input = b.input ∙ a.input;
  instance = b.instance ∙ a.instance;
  watch = b.watch ∙ a.watch;
  ends = record {
    count = b.ends.count ∙ a.ends.count;
    same = λ q. same_then (end_at x.work.ends q) (end_at y.work.ends q) (end_at z.work.ends q) (a.ends.same q) (b.ends.same q);
    flushed = λ q. omega (arith, a.ends.flushed q, b.ends.flushed q);
  };
  events = let f = a.events in let g = b.events in omega (arith, f, g);
  still = λ e.
      let f = a.events in
      let g = b.events in
      let first : y.work.cell.events ≡ x.work.cell.events = omega (arith, e, f, g) in
      let second : z.work.cell.events ≡ y.work.cell.events = omega (arith, e, f, g) in
      b.still second ∙ a.still first;
}

-- a task that continues that of p is that of p
pub task_of : (key : Terms Tasked) (p : ℕ) (x : Tasked) {lent code : Program} {lists : Lists} → FitTogether key lent code lists → p < (wired key).instances →
    belongs Continues key p x → IsTaskOf key.network.value p x
task_of key p x fit lt b =
    let f = is_there key.cells.value.items p (omega (arith, fit.count, lt)) in
    let l = b f.0 f.1 in
    let is = fit.cells p f.0 f.1 in
    (l.network ∙ is.0, l.instance ∙ is.1)

-- and of a later one all that it flushed is published
pub is_published : (key : Terms Tasked) (p : ℕ) (y : Tasked) {lent code : Program} {lists : Lists} → FitTogether key lent code lists → p < (wired key).instances →
    belongs IsLater key p y → (o : ℕ) → IsPublished y o
is_published key p y fit lt b = let f = is_there key.cells.value.items p (omega (arith, fit.count, lt)) in (b f.0 f.1).published

-- ---- what is told

-- the parameter that wrote
flushed_some : (w : Work) (m : Option ℕ) (l : ℕ) → second_of (wrote_by w m) ≡ Some l → (o : ℕ) × (m ≡ Some o) × ((end_at w.ends o).flushed ≡ l)
flushed_some w None l e = absurd (none-some _ e)
flushed_some w (Some o) l e = (o, refl, same_Some _ _ e)

wrote_some : (w : Work) (m : Option ℕ) (k l : ℕ) → wrote_by w m ≡ Some (k, l) → (o : ℕ) × (m ≡ Some o) × (count w.cell.sent o ≡ k) × ((end_at w.ends o).flushed ≡ l)
wrote_some w None k l e = absurd (none-some _ e)
wrote_some w (Some o) k l e = let same = same_Some _ _ e in (o, refl, ap (λ x. x.0) same, ap (λ x. x.1) same)

pub sees_two : (a b : ℕ) → SeesMore a b → a ≡ 2 → b ≡ 2
sees_two a b (inl e) h = e ∙ h
sees_two a b (inr e) h = e

module _ (t : Program) (wired : IsWellWired t) where
  own : (w : Work) → w.cell.network ≡ t → IsWellWired w.cell.network
  own w n = subst IsWellWired (sym n) wired

  -- what a task counts as published is known
  pub agrees_with : (key : Terms Tasked) (p : ℕ) (y : Tasked) (v : SeatView) → IsTaskOf t p y → ((o : ℕ) → IsPublished y o) →
      Fits told_tale (belongs IsLater key) (wires t) p y v → AgreesWith y.work y.published v.flushed
  agrees_with key p y v is published fits o c h inner =
      let w = y.work in
      let at : writes_at w c ≡ Some o = writes_first w.cell.network (own w is.0) w.cell.instance o c h inner in
      published o c h inner ∙ (fits.published c (end_at w.ends o).flushed (ap (λ m. second_of (wrote_by w m)) at)).2

  pub published_is : (p : ℕ) (x : Tasked) (v : SeatView) → IsTaskOf t p x → AgreesWith x.work x.published v.flushed → ((o : ℕ) → IsPublished x o) →
      (c l : ℕ) → flushed_of (told_tale x) c ≡ Some l → (c < (wires t).channels) × ((wires t).writer c ≡ Some p) × (l ≡ slice_index v.flushed c)
  published_is p x v is agrees published c l e =
      let w = x.work in
      let f = flushed_some w (writes_at w c) l e in
      let h = first_writes w.cell.network (own w is.0) w.cell.instance f.0 c f.1 in
      let at : actual_at (instance_at (network_of t) p) f.0 ≡ Writes c = sym (handed_is t wired w p f.0 is.0 is.1) ∙ h.0 in
      (written_inside t wired p f.0 c at, writer_is t wired p f.0 c at, sym f.2 ∙ (sym (published f.0 c h.0 h.1) ∙ agrees f.0 c h.0 h.1))

  pub flushed_all : (x : Tasked) → x.work.cell.network ≡ t → IsDelivered x.work → FlushedAll (told_tale x)
  flushed_all x n delivered c k l e =
      let w = x.work in
      let f = wrote_some w (writes_at w c) k l e in
      let h = first_writes w.cell.network (own w n) w.cell.instance f.0 c f.1 in
      sym f.2 ∙ (sym (delivered f.0 c h.0 h.1) ∙ f.3)

  -- a task that was run, flushed and published may be left
  pub fits_after : (key : Terms Tasked) (p : ℕ) (x : Tasked) (v : SeatView) → IsTaskOf t p x → belongs Continues key p x →
      AgreesWith x.work x.published v.flushed → ((o : ℕ) → IsPublished x o) → (v.seen ≡ 2) ⊎ IsDelivered x.work →
      x.work.cell.events ≡ slice_index v.events_when_got p + v.untold → Fits told_tale (belongs IsLater key) (wires t) p x v
  fits_after key p x v is first agrees published delivered events = record {
    published = published_is p x v is agrees published;
    events = events;
    flushed = ⊎_elim (λ e. inl e) (λ d. inr (flushed_all x is.0 d)) delivered;
    belonging = λ z e. record { continues = first z e; published = published };
  }

  -- a seat that knows as much of p finds the task as fit
  pub fits_still : (key : Terms Tasked) (p : ℕ) (y : Tasked) (old new : SeatView) → IsTaskOf t p y → Knows (wires t) p old new → new.untold ≡ old.untold →
      Fits told_tale (belongs IsLater key) (wires t) p y old → Fits told_tale (belongs IsLater key) (wires t) p y new
  fits_still key p y old new is knows untold fits = record {
    published = λ c l e. let f = fits.published c l e in (f.0, f.1, f.2 ∙ sym (knows.flushed c f.0 f.1));
    events = let f : y.work.cell.events ≡ slice_index old.events_when_got p + old.untold = fits.events in let g = knows.events_when_got in omega (arith, f, g, untold);
    flushed = ⊎_elim (λ e. inl (sees_two old.seen new.seen knows.seen e)) (λ d. inr d) fits.flushed;
    belonging = fits.belonging;
  }

  -- what a task waits on that is dry
  pub due_waits : (p : ℕ) (x : Tasked) (q c : ℕ) → IsTaskOf t p x → HasStanding x.work (standing.Dry q) → x.standing ≡ standing.Dry q →
      route_of (actual_at (instance_at (network_of t) p) q) ≡ Some c → x.work.cell.events < 2 ^ 48 → AreCounts x.work.cell →
      IsDue (wires t) p x (due.Waits c (count x.work.cell.taken q))
  due_waits p x q c is paused stands route few counts =
      let w = x.work in
      let r = dry_reads w.cell.network (own w is.0) w.cell.events w.cell.instance q paused.stood.tapes paused.is in
      let at : actual_at (instance_at (network_of t) p) q ≡ Reads r.0 = sym (handed_is t wired w p q is.0 is.1) ∙ r.1 in
      let same : r.0 ≡ c = same_Some _ _ (sym (ap route_of at) ∙ route) in
      let here : handed_to_task w q ≡ Reads c = r.1 ∙ ap Reads same in
      let reads : reads_at w c ≡ Some q = reads_first w.cell.network (own w is.0) w.cell.instance q c here in
      let there : actual_at (instance_at (network_of t) p) q ≡ Reads c = at ∙ ap Reads same in (
        read_inside t wired p q c there,
        reader_is t wired p q c there,
        omega (arith, counts.taken_few q, few),
        (subst (λ s. waits_on w s ≡ Some c) (sym stands) (ap read_by here), ap (count_on w.cell.taken) reads),
      )

  pub dry_routed : (p : ℕ) (x : Tasked) (q : ℕ) → IsTaskOf t p x → HasStanding x.work (standing.Dry q) → route_of (actual_at (instance_at (network_of t) p) q) ≡ None → ⊥
  dry_routed p x q is paused route =
      let w = x.work in
      let r = dry_reads w.cell.network (own w is.0) w.cell.events w.cell.instance q paused.stood.tapes paused.is in
      let at : actual_at (instance_at (network_of t) p) q ≡ Reads r.0 = sym (handed_is t wired w p q is.0 is.1) ∙ r.1 in
      none-some _ (sym route ∙ ap route_of at)

-- ---- after a turn

handed_same : (v w : Work) (o : ℕ) → w.cell.network ≡ v.cell.network → w.cell.instance ≡ v.cell.instance → handed_to_task w o ≡ handed_to_task v o
handed_same v w o n i =
    ap (λ k. actual_at (instance_at (network_of k) w.cell.instance) o) n ∙ ap (λ k. actual_at (instance_at (network_of v.cell.network) k) o) i

-- of the same instance, with the same numbers published
pub agrees_later : (y x : Tasked) (known : List ℕ) → Continues y x → x.published ≡ y.published → AgreesWith y.work y.published known →
    AgreesWith x.work x.published known
agrees_later y x known l same agrees o c h inner =
    ap (λ k. count k o) same ∙
    agrees o c (sym (handed_same y.work x.work o l.network l.instance) ∙ h) (ap (λ k. is_output (role_at (network_of k) c)) (sym l.network) ∙ inner)

module _ (t : Program) (wired : IsWellWired t) where
  pub agrees_known : (p : ℕ) (x : Tasked) (old new : SeatView) → IsTaskOf t p x → Knows (wires t) p old new → AgreesWith x.work x.published old.flushed →
      AgreesWith x.work x.published new.flushed
  agrees_known p x old new is knows agrees o c h inner =
      let at : actual_at (instance_at (network_of t) p) o ≡ Writes c = sym (handed_is t wired x.work p o is.0 is.1) ∙ h in
      agrees o c h inner ∙ sym (knows.flushed c (written_inside t wired p o c at) (writer_is t wired p o c at))
