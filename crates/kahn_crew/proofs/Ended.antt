-- What a closed board says of a run.
use Rattle.kahn_crew.proofs.Common.{none-some, same_Some, append-nil, ◌++◌, reverse, arith, ◌≡◌, ◌⊎◌, inl, inr, ⊎_elim, ℕ, zero, suc, ◌+◌, ◌<◌, ◌≤◌, true, false, List, [], ◌∷◌, length, sum_by, refl, sym, ap, ◌∙◌, subst, Ok, Err, Option, Result, Some, slice_get, some, get_elem?, sum_by-cons, slice_get_within, Program, Schema, Reads, Writes, Given, channel_source, network_of, instance_at, actual_at, role_at, IsWellWired, Lists, is_output, count, end_at, Work, belongs, dealt, wired, events_told, wires, Terms, SeatView, AreReadyTasks, HasBegun, IsTaskOf, Tasked, Continues, IsLater, count_on, handed_to_task, read_by, reads_at, told_tale, waits_on, writes_at, wrote_by, no_writer, ClosesBoard, below}
use Rattle.kahn_streams.specs.declared.tree.Role.{Role}
use Rattle.kahn_board.specs.declared.turn.Closed.{Closed}
use Rattle.std.specs.Prelude.{IfErr}
use Rattle.kahn_crew.specs.declared.opening.CrewFault.{CrewFault}
use Rattle.kahn_crew.specs.declared.opening.CrewFault.TheVariants as fault
use Rattle.kahn_crew.specs.inner.Left.{AreAll, AreUntouched, HaveGone, IsLack, IsQuietTask, IsOver, task_events}
use Rattle.kahn_job.specs.declared.task.TaskStanding.{TaskStanding}
use Rattle.kahn_board.proofs.Opens.{below_first}
use Rattle.kahn_crew.proofs.{Publishing.handed_is, Resting.continues_here, Resting.task_of, Started.both_at, Started.fits_of, Wirings.instances_are, Wirings.read_so, Wirings.reads_first, Wirings.writes_first, Wirings.writer_is}
use Rattle.kahn_streams.specs.declared.tree.Role.TheVariants as role
use Rattle.kahn_streams.proofs.Sourced
use Rattle.kahn_board.specs.Opening as closed
use Rattle.kahn_job.specs.declared.task.TaskStanding.TheVariants as standing

-- how many events may have been done in all: those of the tasks so far and the bound of the board
abbrev most_events : Terms Tasked → ℕ
most_events key = key.bound + events_told told_tale key.cells.value.items

-- ---- lists

-- what is told of each, added up
below_sum : {A : Type 0} (f : A → ℕ) (xs : List A) (tally : ℕ → ℕ) → ((p : ℕ) (x : A) → slice_get xs p ≡ Some x → f x ≡ tally p) → below tally (length xs) ≡ sum_by f xs
below_sum f [] tally h = refl
below_sum f (x ∷ xs) tally h =
    let head : f x ≡ tally 0 = h 0 x refl in
    let rest = below_sum f xs (λ q. tally (suc q)) (λ p. h (suc p)) in
    omega (arith, below_first tally (length xs), head, rest, sum_by-cons f x xs)

-- ---- what a task waits on

waits_so : (w : Work) (s : TaskStanding) (c : ℕ) → waits_on w s ≡ Some c → (q : ℕ) × (s ≡ standing.Dry q) × (read_by (handed_to_task w q) ≡ Some c)
waits_so w standing.Going c e = absurd (none-some _ e)
waits_so w standing.Ended c e = absurd (none-some _ e)
waits_so w (standing.Faulted k) c e = absurd (none-some _ e)
waits_so w (standing.Dry q) c e = (q, refl, e)

inner_output : (r : Role) → r ≡ role.Inner → is_output r ≡ false
inner_output r e = ap is_output e

input_output : (r : Role) → r ≡ role.Input → is_output r ≡ false
input_output r e = ap is_output e

module _ (t : Program) (is_wired : IsWellWired t) where
  abbrev N : Schema
  N = network_of t

  -- what an instance reads is no output
  read_inner : (p q c : ℕ) → actual_at (instance_at N p) q ≡ Reads c → is_output (role_at N c) ≡ false
  read_inner p q c e =
      ⊎_elim (λ (f : (channel_source N c ≡ Given) × (role_at N c ≡ role.Input)). input_output (role_at N c) f.1) (λ f. inner_output (role_at N c) f.4) (Sourced.reads t is_wired p q c e)

-- ---- a run of a program

module _ (lists : Lists) (watch : Option ℕ) (key : Terms Tasked) (is_wired : IsWellWired key.network.value) (begun : HasBegun key.network.value lists watch key)
    (c : Closed Tasked) (tasks : List Tasked) (v : SeatView) (closes : ClosesBoard told_tale (belongs IsLater key) (wired key) (dealt told_tale key) c v) (are : c.cells.items ≡ tasks) where
  abbrev t : Program
  t = key.network.value

  abbrev n : ℕ
  n = (wires t).instances

  many : length tasks ≡ n
  many = ap length (sym are) ∙ closes.each.0

  within : (p : ℕ) (x : Tasked) → slice_get tasks p ≡ Some x → p < n
  within p x e = let lt = slice_get_within tasks p x e in omega (arith, lt, many)

  cell_at : (p : ℕ) (x : Tasked) → slice_get tasks p ≡ Some x → get_elem? c.cells.items p ≡ some x
  cell_at p x e = ap (λ (l : List Tasked). get_elem? l p) are ∙ both_at tasks p x e

  belong : (p : ℕ) (x : Tasked) → slice_get tasks p ≡ Some x → belongs IsLater key p x
  belong p x e = closes.belonging p x (within p x e) (cell_at p x e)

  of_instance : (p : ℕ) (x : Tasked) → slice_get tasks p ≡ Some x → IsTaskOf t p x
  of_instance p x e =
      task_of key p x (fits_of t lists watch key begun t refl) (within p x e) (λ z f. (belong p x e z f).continues)

  later : (p : ℕ) (y x : Tasked) → slice_get key.cells.value.items p ≡ Some y → slice_get tasks p ≡ Some x → Continues y x
  later p y x e f = (belong p x f y (both_at key.cells.value.items p y e)).continues

  spent : v.untold ≡ 0 → c.budget + sum_by task_events tasks ≡ most_events key
  spent none =
      let tally = closes.events.0 in
      let tells = closes.events.1 in
      let adds : events_told told_tale key.cells.value.items + v.done ≡ below tally n + v.untold = closes.events.2 in
      let all : c.budget + v.done ≡ key.bound = closes.budget_is in
      let sum : below tally (length tasks) ≡ sum_by task_events tasks = below_sum task_events tasks tally (λ p x e. tells p x (within p x e) (cell_at p x e)) in
      let same : below tally n ≡ below tally (length tasks) = ap (below tally) (sym many) in
      omega (arith, adds, all, sum, same, none)

  -- all that was sent on a channel that an instance reads
  all_sent : (p q d k : ℕ) → actual_at (instance_at (network_of t) p) q ≡ Reads d →
      closed.IsAllSent told_tale (belongs IsLater key) (wired key) (dealt told_tale key) c d k → AreAll t lists tasks d k
  all_sent p q d k at all = record {
    given = λ r.
        let lt : d < length (network_of t).channels = Sourced.reads_listed t is_wired p q d at in
        all.0 (no_writer t d (λ p q x. (Sourced.writes t is_wired p q d x.2).1 r)) ∙ (begun.numbers d lt).given r;
    sent = λ r o z e h.
        let is = of_instance r z e in
        let w = z.work in
        let there : actual_at (instance_at (network_of t) r) o ≡ Writes d = sym (handed_is t is_wired w r o is.0 is.1) ∙ h in
        let inner : is_output (role_at (network_of w.cell.network) d) ≡ false = ap (λ m. is_output (role_at (network_of m) d)) is.0 ∙ read_inner t is_wired p q d at in
        let first : writes_at w d ≡ Some o = writes_first w.cell.network (subst IsWellWired (sym is.0) is_wired) w.cell.instance o d h inner in
        all.1 r (count w.cell.sent o) (end_at w.ends o).flushed z (within r z e) (writer_is t is_wired r o d there) (cell_at r z e) (ap (wrote_by w) first);
  }

  at_rest : (p : ℕ) (x : Tasked) → slice_get tasks p ≡ Some x → closed.IsQuietCell told_tale (belongs IsLater key) (wired key) (dealt told_tale key) c p x → IsQuietTask t lists tasks x
  at_rest p x e (inl over) = inl over
  at_rest p x e (inr (d, k, lt, reads, tells, all)) =
      let is = of_instance p x e in
      let w = x.work in
      let s = waits_so w x.standing d tells.0 in
      let q = s.0 in
      let here : handed_to_task w q ≡ Reads d = read_so (handed_to_task w q) d s.2 in
      let at : actual_at (instance_at (network_of t) p) q ≡ Reads d = sym (handed_is t is_wired w p q is.0 is.1) ∙ here in
      let first : reads_at w d ≡ Some q = reads_first w.cell.network (subst IsWellWired (sym is.0) is_wired) w.cell.instance q d here in
      let took : count w.cell.taken q ≡ k = sym (ap (count_on w.cell.taken) first) ∙ tells.1 in
      inr (q, d, s.1, here, subst (AreAll t lists tasks d) (sym took) (all_sent p q d k at all))

  gone_here : v.untold ≡ 0 → HaveGone t lists watch (most_events key) key.cells.value.items tasks c.budget
  gone_here none = record {
    ready = begun.ready;
    count = many ∙ instances_are t;
    later = later;
    events = spent none;
  }

  over_here : v.stage ≡ 1 → IsOver t lists tasks c.budget c.halted
  over_here gone = by (closes.by_done gone)
    where
      by : (c.halted ≡ true) ⊎ ((c.budget ≡ 0) ⊎ ((p : ℕ) (y : Tasked) → p < n → get_elem? c.cells.items p ≡ some y → closed.IsQuietCell told_tale (belongs IsLater key) (wired key) (dealt told_tale key) c p y)) →
          IsOver t lists tasks c.budget c.halted
      by (inl h) = inl h
      by (inr (inl z)) = inr (inl z)
      by (inr (inr rest)) = inr (inr (λ p x e. at_rest p x e (rest p x (within p x e) (cell_at p x e))))

-- tasks that came out of their boxes into an empty list
pub unboxed : {A : Type 0} (cells tasks room : List A) → room ≡ [] → tasks ≡ cells ++ reverse room → cells ≡ tasks
unboxed cells tasks room none e = sym (e ∙ (ap (λ (l : List _). cells ++ reverse l) none ∙ append-nil cells))

-- one cell for each instance
pub instances_of : (k t : Program) → k ≡ t → IsWellWired t → (wires k).instances ≡ length (network_of t).instances
instances_of k t e is_wired = ap (λ (x : Program). (wires x).instances) e ∙ instances_are t

-- ---- sums of events

pub all_told : (xs : List Tasked) → sum_by task_events xs ≡ events_told told_tale xs
all_told [] = refl
all_told (x ∷ xs) = let a = sum_by-cons task_events x xs in let b : sum_by task_events xs ≡ events_told told_tale xs = all_told xs in omega (arith, a, b)

-- later tasks have done no less
abbrev Rise : List Tasked → List Tasked → Type 0
Rise xs ys = (p : ℕ) (x y : Tasked) → slice_get xs p ≡ Some x → slice_get ys p ≡ Some y → x.work.cell.events ≤ y.work.cell.events

-- all together did no less, and where they did no more, none of them did
sums_rise : (xs ys : List Tasked) → length ys ≡ length xs → Rise xs ys → (sum_by task_events xs ≤ sum_by task_events ys)
    × (sum_by task_events ys ≡ sum_by task_events xs → (p : ℕ) (x y : Tasked) → slice_get xs p ≡ Some x → slice_get ys p ≡ Some y → y.work.cell.events ≡ x.work.cell.events)
sums_rise [] [] l h = (omega arith, λ s p x y e f. absurd (none-some _ e))
sums_rise [] (y ∷ ys) l h = absurd (omega (arith, l))
sums_rise (x ∷ xs) [] l h = absurd (omega (arith, l))
sums_rise (z ∷ xs) (u ∷ ys) l h =
    let a : sum_by task_events (z ∷ xs) ≡ z.work.cell.events + sum_by task_events xs = sum_by-cons task_events z xs in
    let b : sum_by task_events (u ∷ ys) ≡ u.work.cell.events + sum_by task_events ys = sum_by-cons task_events u ys in
    let g : z.work.cell.events ≤ u.work.cell.events = h zero z u refl refl in
    let r = sums_rise xs ys (omega (arith, l)) (λ q. h (suc q)) in
    let least : sum_by task_events xs ≤ sum_by task_events ys = r.0 in
    (omega (arith, a, b, g, least), λ s. by (omega (arith, a, b, g, least, s)) (r.1 (omega (arith, a, b, g, least, s))))
  where
    by : u.work.cell.events ≡ z.work.cell.events → ((p : ℕ) (x y : Tasked) → slice_get xs p ≡ Some x → slice_get ys p ≡ Some y → y.work.cell.events ≡ x.work.cell.events) →
        (p : ℕ) (x y : Tasked) → slice_get (z ∷ xs) p ≡ Some x → slice_get (u ∷ ys) p ≡ Some y → y.work.cell.events ≡ x.work.cell.events
    by same others zero x y e f = ap task_events (sym (same_Some _ _ f)) ∙ same ∙ ap task_events (same_Some _ _ e)
    by same others (suc p) x y e f = others p x y e f

-- a run on whose board nobody works, that was made of these tasks for so many events
module _ {t : Program} {lists : Lists} {watch : Option ℕ} {key : Terms Tasked} (is_wired : IsWellWired t) (begun : HasBegun t lists watch key)
    {c : Closed Tasked} {tasks : List Tasked} {v : SeatView} (closes : ClosesBoard told_tale (belongs IsLater key) (wired key) (dealt told_tale key) c v) (are : c.cells.items ≡ tasks)
    {bound : ℕ} {first : List Tasked} (of : (key.bound ≡ bound) × (key.cells.value.items ≡ first)) where
  wired_key : IsWellWired key.network.value
  wired_key = subst IsWellWired (sym begun.network) is_wired

  begun_key : HasBegun key.network.value lists watch key
  begun_key = subst (λ (k : Program). HasBegun k lists watch key) (sym begun.network) begun

  pub have_gone : v.untold ≡ 0 → HaveGone t lists watch (bound + events_told told_tale first) first tasks c.budget
  have_gone none =
      subst (λ (k : Program). HaveGone k lists watch (bound + events_told told_tale first) first tasks c.budget) begun.network
      (subst (λ b. HaveGone key.network.value lists watch (b + events_told told_tale first) first tasks c.budget) of.0
      (subst (λ (l : List Tasked). HaveGone key.network.value lists watch (key.bound + events_told told_tale l) l tasks c.budget) of.1
      (gone_here lists watch key wired_key begun_key c tasks v closes are none)))

  pub untouched : v.untold ≡ 0 → v.done ≡ 0 → AreUntouched bound first tasks c.budget
  untouched none unused =
      let gone = have_gone none in
      let spent : c.budget + v.done ≡ key.bound = closes.budget_is in
      let all : c.budget ≡ bound = omega (arith, spent, unused, of.0) in
      let sum : c.budget + sum_by task_events tasks ≡ bound + events_told told_tale first = gone.events in
      let told : sum_by task_events first ≡ events_told told_tale first = all_told first in
      let same : sum_by task_events tasks ≡ sum_by task_events first = omega (arith, all, sum, told) in
      record {
        unused = all;
        cells = λ p x y e f.
            (gone.later p x y e f).still
            ((sums_rise first tasks (gone.count ∙ sym gone.ready.count) (λ q u w g h. (gone.later q u w g h).events)).1 same p x y e f);
      }

  pub is_over : v.stage ≡ 1 → IsOver t lists tasks c.budget c.halted
  is_over gone =
      subst (λ (k : Program). IsOver k lists tasks c.budget c.halted) begun.network
      (over_here lists watch key wired_key begun_key c tasks v closes are gone)

-- ---- tasks on which nobody worked

pub untouched_gone : (t : Program) (lists : Lists) (watch : Option ℕ) (bound : ℕ) (first tasks : List Tasked) (budget : ℕ) → AreReadyTasks t lists watch first →
    tasks ≡ first → budget ≡ bound → HaveGone t lists watch (bound + events_told told_tale first) first tasks budget
untouched_gone t lists watch bound first tasks budget ready same left =
    subst (λ (l : List Tasked). HaveGone t lists watch (bound + events_told told_tale first) first l budget) (sym same) (record {
      ready = ready;
      count = ready.count;
      later = λ p x y e f. subst (Continues x) (same_Some _ _ (sym e ∙ f)) (continues_here x);
      events = let a : sum_by task_events first ≡ events_told told_tale first = all_told first in omega (arith, a, left);
    })

pub untouched_here : {bound budget : ℕ} {first tasks : List Tasked} → tasks ≡ first → budget ≡ bound → AreUntouched bound first tasks budget
untouched_here same left = record {
  unused = left;
  cells = λ p x y e f. ap (λ (z : Tasked). z.work.cell) (sym (same_Some _ _ (sym e ∙ subst (λ (l : List Tasked). slice_get l p ≡ Some y) same f)));
}

-- a lack of fewer workers is one of more
pub lack_of : {A : Type 0} (r : Result A CrewFault) {few many : ℕ} → few ≤ many → IfErr r (IsLack few) → IfErr r (IsLack many)
lack_of (Ok v) le h = h
lack_of (Err fault.NoMemory) le h = tt
lack_of (Err fault.NoThread) le h = omega (arith, le, h)
