use Rattle.kahn_pool.proofs.Common.{SettlesTo, ChangedTo}
use Rattle.kahn_pool.proofs.held.settle_all.Given as goal

abbrev pub invariant-loop-instance : goal.invariant-loop-instance
invariant-loop-instance l = ChangedTo SettlesTo l.fn.tasks.items l.tasks.items l.instance
