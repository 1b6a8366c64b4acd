use Rattle.kahn_sequential.proofs.Common.{HasForgotten}
use Rattle.kahn_sequential.proofs.Lists.{ChangedTo}
use Rattle.kahn_sequential.proofs.taps.forget_all.Given as goal

abbrev pub invariant-loop-instance : goal.invariant-loop-instance
invariant-loop-instance l = ChangedTo HasForgotten l.fn.taps.items l.taps.items l.instance
