use Rattle.kahn_crew.proofs.Common.{ℕ, IsSameWorker, SitsWith}
use Rattle.kahn_crew.proofs.worker.pick_hinted.Given as goal

abbrev pub invariant-loop : goal.invariant-loop
invariant-loop l = record {
  same : IsSameWorker l.fn.worker l.worker;
  rests : (n : ℕ) → SitsWith l.fn.run n l.fn.worker.seat → SitsWith l.fn.run n l.worker.seat;
}
