use Rattle.kahn_crew.proofs.Common.{◌≡◌, ℕ, ◌<◌, SeesMore, IsPublished, Heeds, IsAtWork}
use Rattle.kahn_crew.proofs.worker.publish_all.Given as goal

abbrev pub invariant-loop-parameter : goal.invariant-loop-parameter
invariant-loop-parameter l = record {
  same : Heeds l.fn.worker l.worker;
  works : (n k : ℕ) → IsAtWork l.fn.run l.fn.p n k l.fn.task l.fn.worker.seat → IsAtWork l.fn.run l.fn.p n k l.task l.worker.seat;
  seen : SeesMore l.fn.worker.seat.seat.me.0.seen l.worker.seat.seat.me.0.seen;
  work : l.task.work ≡ l.fn.task.work;
  standing : l.task.standing ≡ l.fn.task.standing;
  all : (r : ℕ) → r < l.parameter → IsPublished l.task r;
}
