-- A run that is over.
use Rattle.kahn_pool.proofs.Common.{true≢false, arith, ◌≡◌, ◌⊎◌, inl, inr, ℕ, ◌+◌, ◌^◌, ◌<◌, ◌≤◌, Bool, true, List, [], length, map, sum_by, sym, ap, ◌∙◌, subst, Option, Some, slice_get, length-map, Program, network_of, IsWellWired, Lists, count, told_view, end_at, AreBehindOn, AreJoinedOn, end_in, Work, same_lanes, Tasked, handed_to_task, is_over, task_rows, work_of, AreAll, HaveGone, IsQuietTask, IsOver, task_events, AreEndsOfTasks, IsSettledTask, IsToldAs, SettlesTo, cell_of, Verdict, IsVerdict, HasEndIn, view_events, IsConcluded, get_or_from_slice_get, get_or-le-sum_by, HaveChanged, cases_lt, get_or_past, all_events, CellView, End, got, within_get, TaskEnd as LaneEnd, old_item, map_changed, sum_over}
use Rattle.kahn_job.specs.declared.task.TaskStanding.TheVariants as standing
use Rattle.kahn_streams.specs.declared.answer.Outcome.TheVariants as outcome
use Rattle.kahn_pool.proofs.Rests as rests
use Rattle.kahn_pool.proofs.Rests.{AreTasks, IsInstanceTask, state_of_tasks}

-- ---- after each was asked

module _ {t : Program} {lists : Lists} {watch : Option ℕ} {bound : ℕ} {first old : List Tasked} {budget : ℕ} (gone : HaveGone t lists watch bound first old budget) where
  first_at : (p : ℕ) (x : Tasked) → slice_get old p ≡ Some x → (y : Tasked) × (slice_get first p ≡ Some y)
  first_at p x e =
      let l = within_get old p x e in
      let a = gone.count in
      let b = gone.ready.count in
      got first p (omega (arith, l, a, b))

  left_task : (p : ℕ) (x : Tasked) → slice_get old p ≡ Some x → IsInstanceTask t lists watch p x
  left_task p x e =
      let y = first_at p x e in
      let l = gone.later p y.0 x y.1 e in
      let o = gone.ready.each p y.0 y.1 in
      record { network = l.network ∙ o.network; input = l.input ∙ o.input; instance = l.instance ∙ o.instance; watched = l.watch ∙ o.watched }

  -- it may be asked once more
  pub left_lent : bound < 2 ^ 48 → (p : ℕ) (x : Tasked) → slice_get old p ≡ Some x → (t ≡ x.work.cell.network) × (lists ≡ x.work.cell.input) × (x.work.cell.events < 2 ^ 48)
  left_lent b p x e =
      let k = left_task p x e in
      let m : x.work.cell.events ≤ sum_by task_events old = subst (λ (z : Tasked). z.work.cell.events ≤ sum_by task_events old) (get_or_from_slice_get old p x x e) (get_or-le-sum_by task_events old p x (within_get old p x e)) in
      let s = gone.events in
      (sym k.network, sym k.input, omega (arith, b, m, s))

  module _ {new : List Tasked} (h : HaveChanged SettlesTo old new) where
    pub of_new : (p : ℕ) (y : Tasked) → slice_get new p ≡ Some y → IsInstanceTask t lists watch p y
    of_new p y e =
        let x = old_item h p y e in
        let o = left_task p x.0 x.1 in
        let l = x.2.later in
        record { network = l.network ∙ o.network; input = l.input ∙ o.input; instance = l.instance ∙ o.instance; watched = l.watch ∙ o.watched }

    pub joined_new : (d : ℕ) → AreJoinedOn (network_of t) (task_rows new) d
    joined_new d = same_lanes (network_of t) (task_rows first) (task_rows new) d (λ p q. by p q (cases_lt p (length new))) (gone.ready.joined d)
      where
        none : (xs : List Tasked) (p q : ℕ) → length xs ≤ p → end_in (task_rows xs) p q ≡ end_at [] q
        none xs p q l =
            let n = length-map (map work_of xs) (λ (w : Work). w.ends) ∙ length-map xs work_of in
            ap (λ es. end_at es q) (get_or_past (task_rows xs) p [] (omega (arith, l, n)))

        by : (p q : ℕ) → (p < length new) ⊎ (length new ≤ p) → (end_in (task_rows new) p q).lane ≡ (end_in (task_rows first) p q).lane
        by p q (inl l) =
            let y = got new p l in
            let x = old_item h p y.0 y.1 in
            let z = first_at p x.0 x.1 in
            ap (λ (e : LaneEnd). e.lane) (rests.row_at new p q y.0 y.1) ∙ (x.2.later.ends.same q).lane ∙ ((gone.later p z.0 x.0 z.1 x.1).ends.same q).lane
            ∙ sym (ap (λ (e : LaneEnd). e.lane) (rests.row_at first p q z.0 z.1))
        by p q (inr l) =
            let n = h.count ∙ gone.count ∙ sym gone.ready.count in
            ap (λ (e : LaneEnd). e.lane) (none new p q l ∙ sym (none first p q (omega (arith, l, n))))

    pub cells_same : map cell_of new ≡ map cell_of old
    cells_same = map_changed cell_of cell_of (λ x y s. s.later.still s.events) old new h

    going_apart : (x : Tasked) → IsQuietTask t lists old x → x.standing ≡ standing.Going → ⊥
    going_apart x (inl o) g = true≢false (sym o ∙ ap is_over g)
    going_apart x (inr (q, d, s, r, k)) g = let f : standing.Dry q ≡ standing.Going = sym s ∙ g in cc

    rest_new : ((p : ℕ) (x : Tasked) → slice_get old p ≡ Some x → IsQuietTask t lists old x) → (p : ℕ) (y : Tasked) → slice_get new p ≡ Some y → IsQuietTask t lists new y
    rest_new rest p y e =
        let x = old_item h p y e in
        subst (IsQuietTask t lists new) (sym (same p y e)) (by x.0 (rest p x.0 x.1))
      where
        same : (p : ℕ) (y : Tasked) (e : slice_get new p ≡ Some y) → y ≡ (old_item h p y e).0
        same p y e = let x = old_item h p y e in x.2.still (going_apart x.0 (rest p x.0 x.1))

        all : (d k : ℕ) → AreAll t lists old d k → AreAll t lists new d k
        all d k a = record {
          given = a.given;
          sent = λ r o z f w.
              let u = old_item h r z f in
              let s = same r z f in
              ap (λ (v : Tasked). count v.work.cell.sent o) s ∙ a.sent r o u.0 u.1 (ap (λ (v : Tasked). handed_to_task v.work o) (sym s) ∙ w);
        }

        by : (x : Tasked) → IsQuietTask t lists old x → IsQuietTask t lists new x
        by x (inl o) = inl o
        by x (inr (q, d, s, r, a)) = inr (q, d, s, r, all d (count x.work.cell.taken q) a)

    pub tasks_new : AreTasks t lists watch new
    tasks_new = record { count = h.count ∙ gone.count; each = of_new }

    pub settled_new : (p : ℕ) (y : Tasked) → slice_get new p ≡ Some y → IsSettledTask y
    settled_new p y e = (old_item h p y e).2.settled

    pub events_new : budget + all_events (state_of_tasks t lists watch new) ≡ bound
    events_new =
        let a = gone.events in
        let b = ap (λ cs. sum_by view_events (map told_view cs)) cells_same ∙ sum_over view_events told_view (map cell_of old) ∙ sum_over (λ (c : CellView). c.events) cell_of old in
        omega (arith, a, b)

    pub over_new : {halted : Bool} → IsOver t lists old budget halted → IsOver t lists new budget halted
    over_new (inl a) = inl a
    over_new (inr (inl b)) = inr (inl b)
    over_new (inr (inr c)) = inr (inr (rest_new c))

-- ---- the answer

module _ {t : Program} (wired : IsWellWired t) {lists : Lists} {watch : Option ℕ} {bound : ℕ} {tasks : List Tasked} {budget : ℕ} {halted : Bool}
    (of : AreTasks t lists watch tasks) (settled : (p : ℕ) (x : Tasked) → slice_get tasks p ≡ Some x → IsSettledTask x)
    (sum : budget + all_events (state_of_tasks t lists watch tasks) ≡ bound) (over : IsOver t lists tasks budget halted)
    (behind : (c : ℕ) → AreBehindOn (network_of t) (task_rows tasks) c) {ends : List End} (are : AreEndsOfTasks t lists tasks ends (length tasks)) where
  -- a task at rest wants no more
  no_more : (x : Tasked) → IsQuietTask t lists tasks x → IsToldAs t lists tasks x outcome.More → ⊥
  no_more x (inl o) (inl g) = true≢false (sym o ∙ ap is_over g)
  no_more x (inl o) (inr (q, d, s, r, k)) = true≢false (sym o ∙ ap is_over s)
  no_more x (inr (q, d, s, r, a)) (inl g) = let f : standing.Dry q ≡ standing.Going = sym s ∙ g in cc
  no_more x (inr (q, d, s, r, a)) (inr (q', d', s', r', n)) =
      let e : q ≡ q' = cc in
      let f : d ≡ d' = cc in
      n (subst (λ k. AreAll t lists tasks k (count x.work.cell.taken q')) f (subst (λ k. AreAll t lists tasks d (count x.work.cell.taken k)) e a))

  pub concluded : {v : Verdict} → IsVerdict halted ends v → IsConcluded (state_of_tasks t lists watch tasks) bound budget halted v ends
  concluded rule = record {
    last = record {
      known = length-map (map cell_of tasks) told_view ∙ length-map tasks cell_of ∙ of.count;
      total = omega (arith, sum);
      size = are.count ∙ of.count;
      ends = λ p y e. one p y e (task p y e);
    };
    rule = rule;
    within = rests.within t wired lists watch tasks of settled behind;
  }
    where
      task : (p : ℕ) (y : End) → slice_get ends p ≡ Some y → (x : Tasked) × (slice_get tasks p ≡ Some x)
      task p y e = let l = within_get ends p y e in let n = are.count in got tasks p (omega (arith, l, n))

      more : (x : Tasked) (p : ℕ) → slice_get tasks p ≡ Some x → IsToldAs t lists tasks x outcome.More →
          (halted ≡ true) ⊎ ((budget ≡ 0) ⊎ ((p : ℕ) (x : Tasked) → slice_get tasks p ≡ Some x → IsQuietTask t lists tasks x)) → (budget ≡ 0) ⊎ (halted ≡ true)
      more x p e m (inl a) = inr a
      more x p e m (inr (inl b)) = inl b
      more x p e m (inr (inr c)) = absurd (no_more x (c p x e) m)

      one : (p : ℕ) (y : End) → slice_get ends p ≡ Some y → (x : Tasked) × (slice_get tasks p ≡ Some x) →
          HasEndIn (state_of_tasks t lists watch tasks) p y × (y.outcome ≡ outcome.More → (budget ≡ 0) ⊎ (halted ≡ true))
      one p y e x =
          let k = are.each p x.0 y x.1 e in
          (rests.rests t wired lists watch tasks of settled behind p x.0 y x.1 k, λ m. more x.0 p x.1 (subst (IsToldAs t lists tasks x.0) m k.told) over)
