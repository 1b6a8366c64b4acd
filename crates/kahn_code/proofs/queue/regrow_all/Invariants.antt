use Rattle.kahn_code.proofs.Common.{◌≡◌, ◌++◌, drop, map, take, regrown}
use Rattle.kahn_code.proofs.queue.regrow_all.Given as goal

abbrev pub ghost-regrow : goal.ghost-regrow
ghost-regrow g a = g.input

abbrev pub invariant-loop-number : goal.invariant-loop-number
invariant-loop-number g l = l.queues.items ≡ map (regrown g.input) (take l.number l.fn.queues.items) ++ drop l.number l.fn.queues.items
