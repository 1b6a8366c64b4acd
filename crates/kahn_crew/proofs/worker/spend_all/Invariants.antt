use Rattle.kahn_crew.proofs.Common.{HasTask, Heeds}
use Rattle.kahn_crew.specs.inner.Turns.{MayBegin}
use Rattle.kahn_crew.proofs.worker.spend_all.Given as goal

abbrev pub invariant-loop-first : goal.invariant-loop-first
invariant-loop-first g l = record {
  same : Heeds l.fn.worker l.worker;
  holds : HasTask l.fn.run l.p l.left l.worker.seat;
  may : MayBegin l.fn.run l.left l.worker;
}

abbrev pub decreases-loop-first : goal.decreases-loop-first
decreases-loop-first g l = l.left
