use Rattle.std.proofs.lemmas.Result.{on_ok_weaker}
use Rattle.kahn_pool.proofs.Common.{arith, ℕ, List, length, sym, ap, ◌∙◌, subst, network_of, AreBehindOn, rows_of, Tasked, task_rows, IsVerdict, AreEndsOfTasks, AreTold}
use Rattle.kahn_pool.proofs.{Held_jobs.cells_after, Held_jobs.held_after, Held_jobs.held_concluded, Held_jobs.held_met, Held_jobs.memory_is, Held_jobs.so_ended, Held_jobs.so_refused, Held_jobs.so_told, Over.events_new, Over.left_lent, Over.over_new, Over.settled_new, Over.tasks_new, Over.concluded}
use Rattle.kahn_pool.proofs.Rests as rests
use Rattle.kahn_pool.proofs.held.conclude.Goals as goal

pub settle_all-requires : goal.settle_all-requires
settle_all-requires c = let l = c.requires.left in left_lent l.gone l.bounded

pub ends_of-ends-requires-clause-told : goal.ends_of-ends-requires-clause-told
ends_of-ends-requires-clause-told c =
    let t = c.args.part.now in
    let l = c.requires.left in
    let asked = c.settle_all.ensures in
    subst (AreTold t.network.now) (sym c.deref.ensures.value)
    (rests.are_told t.network.now c.program-program.ensures.wired t.input.now t.crew.watch c.settle_all.new.tasks.items (tasks_new l.gone asked) (settled_new l.gone asked))

pub ends_of-ends-requires-clause-room : goal.ends_of-ends-requires-clause-room
ends_of-ends-requires-clause-room c =
    let room = c.requires.ends in
    let all = ap length c.deref.ensures.value ∙ c.settle_all.ensures.count ∙ c.requires.left.gone.count in
    omega (arith, room, all)

pub rest_all-requires : goal.rest_all-requires
rest_all-requires c =
    let room = c.requires.idles.1 in
    let all = c.settle_all.ensures.count ∙ c.requires.left.gone.count in
    record { room = (c.requires.idles.0, omega (arith, room, all)) }

pub meet-requires : goal.meet-requires
meet-requires c =
    let held = held_after c.program-program.ensures.wired c.requires.left.gone c.settle_all.ensures c.rest_all.ensures.same in
    (c.args.part.now.input.now, held.idle.resting)

pub returns-clause-held : goal.returns-clause-held
returns-clause-held c = held_met (held_after c.program-program.ensures.wired c.requires.left.gone c.settle_all.ensures c.rest_all.ensures.same) c.meet.ensures.met

pub returns-clause-cells : goal.returns-clause-cells
returns-clause-cells c = c.meet.ensures.met.cells ∙ cells_after c.program-program.ensures.wired c.requires.left.gone c.settle_all.ensures c.rest_all.ensures.same

pub returns-clause-ended : goal.returns-clause-ended
returns-clause-ended c =
    let t = c.args.part.now in
    let wired = c.program-program.ensures.wired in
    let gone = c.requires.left.gone in
    let new = c.settle_all.new.tasks.items in
    let asked = c.settle_all.ensures in
    let same = c.rest_all.ensures.same in
    let met = c.meet.ensures.met in
    let behind : (d : ℕ) → AreBehindOn (network_of t.network.now) (task_rows new) d = λ d. subst (λ l. AreBehindOn (network_of t.network.now) (rows_of l) d) same (c.meet.ensures.behind d) in
    let are : AreEndsOfTasks t.network.now t.input.now new c.ends_of-ends.result.items (length new) =
    subst (λ (l : List Tasked). AreEndsOfTasks t.network.now t.input.now l c.ends_of-ends.result.items (length l)) c.deref.ensures.value c.ends_of-ends.ensures in
    let rule = subst (λ xs. IsVerdict c.args.left.halted xs c.verdict_of-verdict.result) c.deref-2.ensures.value c.verdict_of-verdict.ensures in
    rw c.and.ensures (so_ended _ _ c.args.outcome c.verdict_of-verdict.result
    (on_ok_weaker c.args.outcome (λ over. (
      c.args.left.halted,
      held_concluded wired gone asked same c.meet.result.items met.cells
          (concluded wired (tasks_new gone asked) (settled_new gone asked) (events_new gone asked) (over_new gone asked over) behind are rule),
    )) c.requires.over) c.requires.lack)

pub returns-clause-verdict : goal.returns-clause-verdict
returns-clause-verdict c =
    rw c.and.ensures (so_told c.args.outcome c.verdict_of-verdict.result (memory_is c.args.left.halted _ c.verdict_of-verdict.result c.verdict_of-verdict.ensures))

pub returns-clause-refused : goal.returns-clause-refused
returns-clause-refused c f = rw c.and.ensures (so_refused c.args.outcome c.verdict_of-verdict.result f)
