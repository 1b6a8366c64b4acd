-- What settled tasks whose ends have met say of the cells.
use Rattle.kahn_pool.proofs.Common.{arith, ◌≡◌, inl, inr, ℕ, zero, suc, ◌+◌, ◌<◌, ◌≤◌, List, [], length, map, refl, sym, ap, ◌∙◌, subst, Option, Some, slice_get, length-append, same_Some, Program, Role, Value, Inner, Input, Schema, Reads, Writes, Given, network_of, instance_at, actual_at, role_at, IsWellWired, reads, writes, Channel, Store, Inputs, fed, iterate, out, source, Lists, inputs_of, dry_reads, AllStand, View, exec_on, is_output, count, told_view, joins_within, driven, IsBehind, IsReady, AreBehindOn, end_in, row_there, Serves, end_at, Tasked, handed_to_task, task_rows, work_of, at_mapped, AreAll, AreTold, IsDryOf, IsEndOf, IsSaid, IsSettledTask, IsToldAs, cell_of, HasEndIn, RunState, TookNoMore, IsGiven, IsOutcomeOf, no_view, view_at, stand_in, StoodBy, IsFed as IsFedBy, End, get_map, got, mapped, same_writer}
use Rattle.kahn_streams.specs.declared.answer.Outcome.{Outcome}
use Rattle.kahn_pool.proofs.Ended.{handed_to, one_number}
use Rattle.kahn_streams.specs.Script as script
use Rattle.kahn_code.specs.Progress as code
use Rattle.kahn_job.specs.declared.task.TaskStanding.TheVariants as standing
use Rattle.kahn_streams.specs.declared.answer.Outcome.TheVariants as outcome

-- what stands on an input channel is of its list
iter_given : (N : Schema) (I : Inputs) (d n : ℕ) → source N (Channel d) ≡ Given → iterate N I n (Channel d) ≡ I d
iter_given N I d zero e = ap (λ s. fed s I (λ p. []) (Channel d)) e
iter_given N I d (suc n) e = ap (λ s. fed s I (λ p. out N n p (iterate N I n) (Channel d)) (Channel d)) e

list_long : (N : Schema) (I : Inputs) (d : ℕ) (xs : List Value) → source N (Channel d) ≡ Given → AllStand N I (Channel d) xs → length xs ≤ length (I d)
list_long N I d xs e h =
    let p = stand_in N I (Channel d) xs h in
    let l : length (I d) ≡ length xs + length p.1.0 = ap length (sym (iter_given N I d p.0 e) ∙ p.1.1) ∙ length-append xs p.1.0 in
    omega (arith, l)

-- the end that a task has
pub row_at : (xs : List Tasked) (p q : ℕ) (x : Tasked) → slice_get xs p ≡ Some x → end_in (task_rows xs) p q ≡ end_at x.work.ends q
row_at xs p q x e = ap (λ es. end_at es q) (row_there (map work_of xs) p x.work (at_mapped work_of xs p x e))

role_apart : {r : Role} → r ≡ Inner → r ≡ Input → ⊥
role_apart a b = let e : Inner ≡ Input = sym a ∙ b in absurd cc

-- ---- tasks of all instances

-- what rounds see of the tasks
abbrev pub state_of_tasks : Program → Lists → Option ℕ → List Tasked → RunState
state_of_tasks t lists watch tasks =
    record { network = network_of t; input = inputs_of lists; watch = watch; cells = map told_view (map cell_of tasks) }

-- the task is that of instance p
pub record IsInstanceTask (t : Program) (lists : Lists) (watch : Option ℕ) (p : ℕ) (x : Tasked) : Type 0 where
  pub network : x.work.cell.network ≡ t
  pub input : x.work.cell.input ≡ lists
  pub instance : x.work.cell.instance ≡ p
  pub watched : x.work.cell.watch ≡ watch

-- the tasks of all instances, in order
pub record AreTasks (t : Program) (lists : Lists) (watch : Option ℕ) (tasks : List Tasked) : Type 0 where
  pub count : length tasks ≡ length (network_of t).instances
  pub each : (p : ℕ) (x : Tasked) → slice_get tasks p ≡ Some x → IsInstanceTask t lists watch p x

module _ (t : Program) (wired : IsWellWired t) (lists : Lists) (watch : Option ℕ) (tasks : List Tasked) (of : AreTasks t lists watch tasks)
    (settled : (p : ℕ) (x : Tasked) → slice_get tasks p ≡ Some x → IsSettledTask x) where
  abbrev N : Schema
  N = network_of t

  abbrev I : Inputs
  I = inputs_of lists

  abbrev cells : List View
  cells = map told_view (map cell_of tasks)

  pub viewed : (p : ℕ) (x : Tasked) → slice_get tasks p ≡ Some x → view_at cells p ≡ told_view x.work.cell
  viewed p x e = mapped told_view (map cell_of tasks) p x.work.cell no_view (get_map cell_of tasks p x e)

  handed_as : (p q : ℕ) (x : Tasked) → slice_get tasks p ≡ Some x → handed_to_task x.work q ≡ actual_at (instance_at N p) q
  handed_as p q x e = let o = of.each p x e in handed_to t p q x o.network o.instance

  pub task_at : (p : ℕ) → p < length N.instances → (x : Tasked) × (slice_get tasks p ≡ Some x)
  task_at p l = got tasks p (subst (λ n. p < n) (sym of.count) l)

  -- by the names of the run
  pub says_here : (p : ℕ) (x : Tasked) → slice_get tasks p ≡ Some x → code.Paused N I watch p (told_view x.work.cell) (IsSaid x.work x.standing)
  says_here p x e =
      let o = of.each p x e in
      subst (λ (k : Program × Lists × Option ℕ × ℕ). code.Paused (network_of k.0) (inputs_of k.1) k.2 k.3 (told_view x.work.cell) (IsSaid x.work x.standing))
      (λ i. (o.network i, o.input i, o.watched i, o.instance i)) (settled p x e).says

  pub dry_of : (p q : ℕ) (x : Tasked) → slice_get tasks p ≡ Some x → x.standing ≡ standing.Dry q → IsDryOf t p q
  dry_of p q x e s =
      let h = says_here p x e in
      dry_reads t wired x.work.cell.events p q h.stood.tapes (subst (λ k. IsSaid x.work k (exec_on N x.work.cell.events p h.stood.tapes).outcome) s h.is)

  pub are_told : AreTold t tasks
  are_told = record {
    count = of.count;
    network = λ p x e. (of.each p x e).network;
    instance = λ p x e. (of.each p x e).instance;
    dry = dry_of;
  }

  module _ (behind : (c : ℕ) → AreBehindOn N (task_rows tasks) c) where
    -- what was given to a channel that is read, and what its reader took of it
    record IsCounted (p q d : ℕ) (x : Tasked) (n : ℕ) : Type 0 where
      pub given : IsGiven N I cells d (source N (Channel d)) n
      pub all : AreAll t lists tasks d n
      pub within : count x.work.cell.taken q ≤ n
      pub more : IsReady (end_at x.work.ends q) → count x.work.cell.taken q < n

    counted : (p q d : ℕ) (x : Tasked) → slice_get tasks p ≡ Some x → actual_at (instance_at N p) q ≡ Reads d → (n : ℕ) × IsCounted p q d x n
    counted p q d x e r = by (reads t wired p q d r)
      where
        o : IsInstanceTask t lists watch p x
        o = of.each p x e

        list_is : length (inputs_of x.work.cell.input d) ≡ length (I d)
        list_is = ap (λ l. length (inputs_of l d)) o.input

        input_here : role_at N d ≡ Input → role_at (network_of x.work.cell.network) d ≡ Input
        input_here i = ap (λ k. role_at (network_of k) d) o.network ∙ i

        serves : Serves x.work.cell.network x.work.cell.input (Reads d) (end_at x.work.ends q)
        serves =
            subst (λ a. Serves x.work.cell.network x.work.cell.input a (end_at x.work.ends q)) (handed_as p q x e ∙ r) ((settled p x e).job.served.each q)

        next_is : (end_at x.work.ends q).next ≡ count x.work.cell.taken q
        next_is = (settled p x e).job.at.reads q d (handed_as p q x e ∙ r)

        by : IsFedBy N d → (n : ℕ) × IsCounted p q d x n
        by (inl f) = (
          length (I d),
          record {
            given = subst (λ s. IsGiven N I cells d s (length (I d))) (sym f.0) refl;
            all = record {
              given = λ i. refl;
              sent = λ s w z g k. absurd ((writes t wired s w d (sym (handed_as s w z g) ∙ k)).1 f.1);
            };
            within =
                let h = says_here p x e in
                let l = list_long N I d (h.stood.tapes q) f.0 (h.stood.stand q d r) in
                let m : length (h.stood.tapes q) ≡ count x.work.cell.taken q = h.stood.took q in
                omega (arith, l, m);
            more = λ ready.
                let l = (settled p x e).fed q x.work.cell.network x.work.cell.input d (serves.2 (input_here f.1)) serves.1 ready in
                let a = next_is in
                let b = list_is in
                omega (arith, l, a, b);
          },
        )
        by (inr f) =
            let y = task_at f.0 (joins_within N f.0 f.1 d (rw f.3 refl)) in
            let h : IsBehind (end_at y.0.work.ends f.1) (end_at x.work.ends q) =
            subst (λ z. IsBehind z (end_at x.work.ends q)) (row_at tasks f.0 f.1 y.0 y.1) (subst (IsBehind (end_in (task_rows tasks) f.0 f.1)) (row_at tasks p q x e) (behind d f.0 p f.1 q f.3 r))
            in
            let k = (settled f.0 y.0 y.1).job in
            let few = k.served.behind f.1 in
            let sent = k.at.writes f.1 d (handed_as f.0 f.1 y.0 y.1 ∙ f.3) (ap (λ k. is_output (role_at (network_of k) d)) (of.each f.0 y.0 y.1).network ∙ ap is_output f.4) in
            let next = next_is in (
              count y.0.work.cell.sent f.1,
              record {
                given = subst (λ s. IsGiven N I cells d s (count y.0.work.cell.sent f.1)) (sym f.2) (f.1, f.3, ap (λ v. v.sent f.1) (viewed f.0 y.0 y.1));
                all = record {
                  given = λ i. absurd (role_apart f.4 i);
                  sent = λ s w z g k.
                      let a : actual_at (instance_at N s) w ≡ Writes d = sym (handed_as s w z g) ∙ k in
                      let i : s ≡ f.0 = same_writer (sym (writes t wired s w d a).0 ∙ f.2) in
                      let same : z ≡ y.0 = same_Some _ _ (sym g ∙ ap (slice_get tasks) i ∙ y.1) in
                      let v : w ≡ f.1 = (driven t wired).once f.0 w f.1 d (subst (λ n. actual_at (instance_at N n) w ≡ Writes d) i a) f.3 in
                      ap (λ u. count u.work.cell.sent w) same ∙ ap (count y.0.work.cell.sent) v;
                };
                within = let w = h.within in omega (arith, w, few, sent, next);
                more = λ ready. let m = h.more ready in omega (arith, m, few, sent, next);
              },
            )

    pub within : TookNoMore N I cells
    within p q d r =
        let x = task_at p (joins_within N p q d (rw r refl)) in
        let h = counted p q d x.0 x.1 r in
        let v : (view_at cells p).taken q ≡ count x.0.work.cell.taken q = ap (λ u. u.taken q) (viewed p x.0 x.1) in
        let le = h.1.within in
        (h.0, h.1.given, omega (arith, v, le))

    told_as : (p : ℕ) (x : Tasked) → slice_get tasks p ≡ Some x → (u : Outcome) → IsToldAs t lists tasks x u → (o : script.ScriptOutcome Store) →
        IsSaid x.work x.standing o → IsOutcomeOf N I cells p o u
    told_as p x e outcome.Ended h o k = subst (λ s. IsSaid x.work s o) h k
    told_as p x e (outcome.Faulted f) h o k = subst (λ s. IsSaid x.work s o) h k
    told_as p x e (outcome.Waits c) (q, s, r, all) o k =
        let here : actual_at (instance_at N p) q ≡ Reads c = sym (handed_as p q x e) ∙ r in
        let h = counted p q c x e here in
        let w : (view_at cells p).taken q ≡ count x.work.cell.taken q = ap (λ u. u.taken q) (viewed p x e) in
        let n : h.0 ≡ (view_at cells p).taken q = one_number t lists tasks p q c h.0 (count x.work.cell.taken q) wired are_told here all h.1.all ∙ sym w in
        (q, here, subst (λ s. IsSaid x.work s o) s k, subst (λ m. IsGiven N I cells c (source N (Channel c)) m) n h.1.given)
    told_as p x e outcome.More (inl s) o k = by (subst (λ s. IsSaid x.work s o) s k)
      where
        by : IsSaid x.work standing.Going o → IsOutcomeOf N I cells p o outcome.More
        by (inl c) = inl c
        by (inr (q, d, r, dry, ready)) =
            let here : actual_at (instance_at N p) q ≡ Reads d = sym (handed_as p q x e) ∙ r in
            let h = counted p q d x e here in
            let w : (view_at cells p).taken q ≡ count x.work.cell.taken q = ap (λ u. u.taken q) (viewed p x e) in
            let m = h.1.more ready in
            inr (q, d, h.0, here, dry, h.1.given, omega (arith, w, m))
    told_as p x e outcome.More (inr (q, d, s, r, not)) o k =
        let here : actual_at (instance_at N p) q ≡ Reads d = sym (handed_as p q x e) ∙ r in
        let h = counted p q d x e here in
        let w : (view_at cells p).taken q ≡ count x.work.cell.taken q = ap (λ u. u.taken q) (viewed p x e) in
        let within = h.1.within in
        let other : count x.work.cell.taken q ≡ h.0 → ⊥ = λ i. not (subst (AreAll t lists tasks d) (sym i) h.1.all) in
        let m : count x.work.cell.taken q < h.0 = omega (arith, within, other) in
        inr (q, d, h.0, here, subst (λ s. IsSaid x.work s o) s k, h.1.given, omega (arith, w, m))

    pub rests : (p : ℕ) (x : Tasked) (y : End) → slice_get tasks p ≡ Some x → IsEndOf t lists tasks x y → HasEndIn (state_of_tasks t lists watch tasks) p y
    rests p x y e h = record {
      stood = told.0;
      count = h.events ∙ sym (ap (λ u. u.events) (viewed p x e));
      told = told.1;
    }
      where
        paused : code.Paused N I watch p (told_view x.work.cell) (IsSaid x.work x.standing)
        paused = says_here p x e

        told : (k : StoodBy N I watch p (view_at cells p)) × IsOutcomeOf N I cells p (exec_on N (view_at cells p).events p k.tapes).outcome y.outcome
        told =
            subst (λ u. (k : StoodBy N I watch p u) × IsOutcomeOf N I cells p (exec_on N u.events p k.tapes).outcome y.outcome) (sym (viewed p x e))
            (paused.stood, told_as p x e y.outcome h.told _ paused.is)
