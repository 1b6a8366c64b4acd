-- The jobs of a held run: how they become tasks, and how tasks come to rest.
use Rattle.std.specs.Result.{result_and}
use Rattle.std.specs.Prelude.{◌↔◌, IfErr, MatchResult, Ok, OnOk}
use Rattle.kahn_streams.specs.declared.answer.Verdict.TheVariants as verdict
use Rattle.kahn_pool.proofs.Common.{false, true, arith, refl, IsVerdict, ◌≡◌, ℕ, ◌+◌, List, length, map, sum_by, sym, ap, ◌∙◌, subst, Some, slice_get, Bool, Option, Result, Err, length-map, Program, network_of, AreInputsExtended, Lists, inputs_of, StoodBy, CellView, told_view, AreIdle, AreJoinedJobs, HaveMet, cells_of, rows_of, AreJoinedOn, IsJob, Work, all_idle, idle_grown, idle_met, events_told, woken_task, Tasked, AreUntouched, HaveGone, task_events, told_tale, work_of, all_told, at_mapped, mapped_at, IsConcluded, seen_of, AreEnded, AreHeld, AreHeldBy, HasRisen, HasStoppedPart, HaveRisen, cell_alone, cell_for, held_state, cell_of, RunState, Verdict, RunPart, Stopped, IsLack, CrewFault, NoMemory, IsWellWired, HaveChanged, SettlesTo, view_events, seen_events, same_Some, prefix_refl, AllStandBy, End as RunEnd, events_seen, map_map, sum_over, map_changed}
use Rattle.kahn_pool.proofs.Over as over
use Rattle.kahn_pool.proofs.Rests as rests
use Rattle.kahn_pool.proofs.Rests.{state_of_tasks}

-- ---- tasks come to rest

module _ {t : Program} (wired : IsWellWired t) {lists : Lists} {watch : Option ℕ} {bound : ℕ} {first old : List Tasked} {budget : ℕ}
    (gone : HaveGone t lists watch bound first old budget) {new : List Tasked} (asked : HaveChanged SettlesTo old new) {ws : List Work} (same : ws ≡ map work_of new) where
  cells_new : cells_of ws ≡ map cell_of new
  cells_new = ap cells_of same ∙ map_map (λ (w : Work). w.cell) work_of new

  pub cells_after : cells_of ws ≡ map cell_of old
  cells_after = cells_new ∙ over.cells_same gone asked

  -- the cell of a job is that of the task that was asked
  cell_at : (p : ℕ) (c : CellView) → slice_get (cells_of ws) p ≡ Some c → (x : Tasked) × (slice_get new p ≡ Some x) × (c ≡ x.work.cell)
  cell_at p c e = mapped_at cell_of new p c (subst (λ (l : List CellView). slice_get l p ≡ Some c) cells_new e)

  together : AreJoinedJobs t lists ws
  together = record {
    count = ap (λ (l : List Work). length l) same ∙ length-map new work_of ∙ asked.count ∙ gone.count;
    each = λ p w e.
        let x = mapped_at work_of new p w (subst (λ (l : List Work). slice_get l p ≡ Some w) same e) in
        let o = over.of_new gone asked p x.0 x.1 in
        let c = ap (λ (z : Work). z.cell) x.2 in (
          subst IsJob (sym x.2) (over.settled_new gone asked p x.0 x.1).job,
          ap (λ (c : CellView). c.network) c ∙ o.network,
          ap (λ (c : CellView). c.input) c ∙ o.input,
          ap (λ (c : CellView). c.instance) c ∙ o.instance,
        );
    joined = λ d. subst (λ l. AreJoinedOn (network_of t) (rows_of l) d) (sym same) (over.joined_new gone asked d);
  }

  pub held_after : AreHeld t lists watch bound ws budget
  held_after = record {
    idle = all_idle t lists ws together;
    watched = λ p c e. let x = cell_at p c e in ap (λ (d : CellView). d.watch) x.2 ∙ (over.of_new gone asked p x.0 x.1).watched;
    stood = λ p c e.
        let x = cell_at p c e in
        let says = rests.says_here t wired lists watch new (over.tasks_new gone asked) (over.settled_new gone asked) p x.0 x.1 in
        subst (λ (d : CellView). StoodBy (network_of t) (inputs_of d.input) watch p (told_view d)) (sym x.2)
        (subst (λ l. StoodBy (network_of t) (inputs_of l) watch p (told_view x.0.work.cell)) (sym (over.of_new gone asked p x.0 x.1).input) says.stood);
    events = ap (λ n. budget + n) (events_seen (cells_of ws)) ∙ ap (λ cs. budget + sum_by view_events (map told_view cs)) cells_new ∙ over.events_new gone asked;
  }

  -- also where their ends have met
  pub held_concluded : (us : List Work) → cells_of us ≡ cells_of ws → {halted : Bool} {v : Verdict} {ends : List RunEnd} →
      IsConcluded (state_of_tasks t lists watch new) bound budget halted v ends → IsConcluded (held_state t lists watch us) bound budget halted v ends
  held_concluded us met {halted} {v} {ends} c =
      subst (λ cs. IsConcluded (let r : RunState = record { network = network_of t; input = inputs_of lists; watch = watch; cells = map told_view cs } in r) bound budget halted v ends)
      (sym (met ∙ cells_new)) c

-- ---- a part of a run

-- the bound of all events is that of the part and what was done before
pub woken_events : {t : Program} {lists : Lists} {watch : Option ℕ} {bound : ℕ} {ws : List Work} {budget : ℕ} → AreHeld t lists watch bound ws budget →
    {tasks : List Tasked} → tasks ≡ map (woken_task lists) ws → budget + events_told told_tale tasks ≡ bound
woken_events {lists = lists} {ws = ws} {budget = budget} h same =
    ap (λ (l : List Tasked). budget + events_told told_tale l) same
    ∙ ap (λ n. budget + n) (sym (all_told (map (woken_task lists) ws)) ∙ sum_over task_events (woken_task lists) ws
    ∙ sym (sum_over seen_events seen_of (cells_of ws) ∙ sum_over (λ (c : CellView). c.events) (λ (w : Work). w.cell) ws)) ∙ h.events

module _ {t : Program} {lists : Lists} {watch : Option ℕ} {bound : ℕ} {ws : List Work} {budget : ℕ} (h : AreHeld t lists watch bound ws budget)
    {tasks : List Tasked} (woken : tasks ≡ map (woken_task lists) ws) {old : List Tasked} {total left : ℕ} (gone : HaveGone t lists watch total tasks old left)
    (us : List Work) (cells : cells_of us ≡ map cell_of old) where
  pub have_risen : HaveRisen (cells_of ws) (cells_of us)
  have_risen p c d e f =
      let w = mapped_at (λ (w : Work). w.cell) ws p c e in
      let y = mapped_at cell_of old p d (subst (λ (l : List CellView). slice_get l p ≡ Some d) cells f) in
      let first = subst (λ (l : List Tasked). slice_get l p ≡ Some (woken_task lists w.0)) (sym woken) (at_mapped (woken_task lists) ws p w.0 w.1) in
      let l = gone.later p (woken_task lists w.0) y.0 first y.1 in
      let risen : HasRisen w.0.cell y.0.work.cell = record {
        events = l.events;
        input = subst (λ i. AreInputsExtended (inputs_of w.0.cell.input) (inputs_of i)) (sym l.input) (h.idle.each p w.0 w.1).grown;
      } in
      subst (λ (z : CellView). HasRisen z d) (sym w.2) (subst (HasRisen w.0.cell) (sym y.2) risen)

  pub cells_still : {more : ℕ} → AreUntouched more tasks old left → cells_of us ≡ map (cell_for lists) (cells_of ws)
  cells_still u =
      let still = map_changed cell_of cell_of (λ x y e. e) tasks old (record { count = gone.count ∙ sym gone.ready.count; each = u.cells }) in
      cells ∙ still ∙ ap (map cell_of) woken ∙ map_map cell_of (woken_task lists) ws ∙ sym (map_map (cell_for lists) (λ (w : Work). w.cell) ws)

  pub alone_still : {more : ℕ} → AreUntouched more tasks old left → map cell_alone (cells_of us) ≡ map cell_alone (cells_of ws)
  alone_still u = ap (map cell_alone) (cells_still u) ∙ map_map cell_alone (cell_for lists) (cells_of ws)

-- ---- jobs whose cells are as they were

pub risen_here : (cells : List CellView) → HaveRisen cells cells
risen_here cells p c d e f = subst (HasRisen c) (same_Some c d (sym e ∙ f)) (record { events = omega arith; input = λ k. prefix_refl (inputs_of c.input k) })

-- but for their inputs
module _ (us ws : List Work) (same : map cell_alone (cells_of us) ≡ map cell_alone (cells_of ws)) where
  pub same_seen : map seen_of (cells_of us) ≡ map seen_of (cells_of ws)
  same_seen = sym (map_map seen_of cell_alone (cells_of us)) ∙ ap (map seen_of) same ∙ map_map seen_of cell_alone (cells_of ws)

  pub ended_alike : (t : Program) (lists : Lists) (watch : Option ℕ) (bound budget : ℕ) (ends : List RunEnd) (v : Option Verdict) →
      AreEnded (held_state t lists watch ws) bound budget ends v → AreEnded (held_state t lists watch us) bound budget ends v
  ended_alike t lists watch bound budget ends v e =
      subst (λ cs. AreEnded (let r : RunState = record { network = network_of t; input = inputs_of lists; watch = watch; cells = cs } in r) bound budget ends v)
      (sym (sym (map_map told_view cell_alone (cells_of us)) ∙ ap (map told_view) same ∙ map_map told_view cell_alone (cells_of ws))) e

-- all of them
module _ {t : Program} {lists : Lists} {watch : Option ℕ} {bound : ℕ} {ws : List Work} {budget : ℕ} (h : AreHeld t lists watch bound ws budget) where
  pub held_alike : (us : List Work) → cells_of us ≡ cells_of ws → AreIdle t lists us → AreHeld t lists watch bound us budget
  held_alike us same idle = record {
    idle = idle;
    watched = subst (λ cells. (p : ℕ) (c : CellView) → slice_get cells p ≡ Some c → c.watch ≡ watch) (sym same) h.watched;
    stood = subst (AllStandBy t watch) (sym same) h.stood;
    events = ap (λ cs. budget + sum_by seen_events (map seen_of cs)) same ∙ h.events;
  }

  -- where their ends have met
  pub held_met : {us : List Work} → HaveMet ws us → AreHeld t lists watch bound us budget
  held_met {us} m = held_alike us m.cells (idle_met t lists ws h.idle us m)

  -- so many events more are allowed, and so many fewer
  pub held_more : {total : ℕ} (more : ℕ) → total ≡ bound + more → AreHeld t lists watch total ws (budget + more)
  held_more more e = record { idle = h.idle; watched = h.watched; stood = h.stood; events = let a = h.events in omega (arith, a, e) }

  pub held_again : (more total left : ℕ) → total + more ≡ bound → left + more ≡ budget → AreHeld t lists watch total ws left
  held_again more total left e f = record { idle = h.idle; watched = h.watched; stood = h.stood; events = let a = h.events in omega (arith, a, e, f) }

  -- for an input that has grown
  pub held_grown : (after : Lists) → AreInputsExtended (inputs_of lists) (inputs_of after) → AreHeld t after watch bound ws budget
  held_grown after grown = record { idle = idle_grown t lists ws h.idle after grown; watched = h.watched; stood = h.stood; events = h.events }

-- ---- how a part stopped

-- the verdict tells of want of memory
pub memory_is : (halted : Bool) (ends : List RunEnd) (v : Verdict) → IsVerdict halted ends v → v ≡ verdict.Memory ↔ halted ≡ true
memory_is halted ends verdict.Memory r = ((λ e. r), λ h. refl)
memory_is halted ends verdict.Finished r = ((λ e. absurd cc), λ h. let no : false ≡ true = sym r.0 ∙ h in absurd cc)
memory_is halted ends verdict.Bound r = ((λ e. absurd cc), λ h. let no : false ≡ true = sym r.0 ∙ h in absurd cc)

-- a verdict stands for a run that was done, and the fault of another one stays
pub so_ended : {A V E : Type 0} (P : V → Type 0) (Q : E → Type 0) (o : Result A E) (v : V) → OnOk o (P v) → IfErr o Q → MatchResult (result_and o (Ok v)) P Q
so_ended P Q (Ok x) v p q = p
so_ended P Q (Err e) v p q = q

pub so_told : {A E H : Type 0} (o : Result A E) (v : Verdict) → (v ≡ verdict.Memory ↔ H) → OnOk o (result_and o (Ok v) ≡ Ok verdict.Memory ↔ H)
so_told (Ok x) v m = ((λ e. m.0 (cc)), λ h. ap Ok (m.1 h))
so_told (Err e) v m = tt

pub so_refused : {A V E : Type 0} (o : Result A E) (v : V) (f : E) → (result_and o (Ok v) ≡ Err f ↔ o ≡ Err f)
so_refused (Ok x) v f = ((λ e. absurd cc), λ e. absurd cc)
so_refused (Err e) v f = ((λ i. cc), λ i. cc)

-- it was refused, with the jobs as they are
pub refused_so : (part : RunPart) (old : List Work) (r : Stopped) → AreHeldBy part r.idles.items r.budget → HaveRisen (cells_of old) (cells_of r.idles.items) → (fault : CrewFault) →
    IsLack part.crew.workers fault → r.outcome ≡ Err fault →
    (fault ≡ NoMemory → (r.budget ≡ part.left) × (map cell_alone (cells_of r.idles.items) ≡ map cell_alone (cells_of old))) → HasStoppedPart part old r
refused_so part old r held risen fault want e still = record {
  held = held;
  risen = risen;
  outcome = rw e want;
  untouched = λ f. still (cc);
}

-- jobs whose cells are the same
pub stopped_since : (part : RunPart) (ws us : List Work) (r : Stopped) → cells_of us ≡ cells_of ws → HasStoppedPart part us r → HasStoppedPart part ws r
stopped_since part ws us r cells h = record {
  held = h.held;
  risen = subst (λ cs. HaveRisen cs (cells_of r.idles.items)) cells h.risen;
  outcome = h.outcome;
  untouched = λ e. let u = h.untouched e in (u.0, u.1 ∙ ap (map cell_alone) cells);
}
