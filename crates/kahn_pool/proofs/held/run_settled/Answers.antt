use Rattle.kahn_pool.proofs.Common.{arith, sym, ◌∙◌, subst, AreReadyTasks, HaveGone, NoMemory, woken_ready, Work, at_mapped}
use Rattle.kahn_pool.proofs.Held_jobs.{alone_still, cells_still, have_risen, woken_events}
use Rattle.kahn_pool.proofs.held.run_settled.Goals as goal

pub wake_all-tasks-requires-clause-room : goal.wake_all-tasks-requires-clause-room
wake_all-tasks-requires-clause-room g c =
    let n = c.requires.part.held.idle.count in
    let r = c.requires.room.tasks.1 in
    (c.requires.room.tasks.0, omega (arith, n, r))

pub run_tasks-outcome-requires-clause-ready : goal.run_tasks-outcome-requires-clause-ready
run_tasks-outcome-requires-clause-ready g c κs within =
    let t = c.args.part.now in
    let held = c.requires.part.held in
    let ws = c.args.idles.items in
    subst (AreReadyTasks t.network.now t.input.now t.crew.watch) (sym c.wake_all-tasks.ensures)
    (woken_ready t.network.now t.input.now ws held.idle c.requires.settled t.crew.watch (λ p w e. held.watched p w.cell (at_mapped (λ (z : Work). z.cell) ws p w e)))

pub run_tasks-outcome-requires-clause-total : goal.run_tasks-outcome-requires-clause-total
run_tasks-outcome-requires-clause-total g c =
    let all = woken_events c.requires.part.held c.wake_all-tasks.ensures in
    let b = c.requires.part.few in
    omega (arith, all, b)

pub conclude-requires-clause-left : goal.conclude-requires-clause-left
conclude-requires-clause-left g c =
    let t = c.args.part.now in
    let left = c.run_tasks-outcome.result.1 in
    let all = woken_events c.requires.part.held c.wake_all-tasks.ensures in
    record {
      bounded = c.requires.part.few;
      first = c.wake_all-tasks.result.items;
      gone = subst (λ b. HaveGone t.network.now t.input.now t.crew.watch b c.wake_all-tasks.result.items left.tasks.items left.budget) all c.run_tasks-outcome.ensures.gone;
    }

pub returns-clause-stopped : goal.returns-clause-stopped
returns-clause-stopped g c =
    let held = c.requires.part.held in
    let run = c.run_tasks-outcome.ensures in
    let end = c.conclude.ensures in
    let us = c.conclude.result.idles.items in
    record {
      held = end.held;
      risen = have_risen held c.wake_all-tasks.ensures run.gone us end.cells;
      outcome = end.ended;
      untouched = λ e. let u = run.untouched ((end.refused NoMemory).0 e) in (end.budget ∙ u.unused, alone_still held c.wake_all-tasks.ensures run.gone us end.cells u);
    }

pub returns-clause-untouched : goal.returns-clause-untouched
returns-clause-untouched g c e =
    let run = c.run_tasks-outcome.ensures in
    let end = c.conclude.ensures in
    cells_still c.requires.part.held c.wake_all-tasks.ensures run.gone c.conclude.result.idles.items end.cells (run.untouched ((end.refused NoMemory).0 e))
