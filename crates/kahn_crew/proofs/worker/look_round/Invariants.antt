use Rattle.kahn_crew.proofs.Common.{ℕ, ◌+◌, ◌%◌, ◌<◌, IsSameWorker, SitsWith, WasNotReady}
use Rattle.kahn_crew.proofs.worker.look_round.Given as goal

abbrev pub invariant-loop-step : goal.invariant-loop-step
invariant-loop-step l = record {
  same : IsSameWorker l.fn.worker l.worker;
  idle : SitsWith l.fn.run 0 l.worker.seat;
  late : (k : ℕ) → k < l.step → WasNotReady l.fn.run l.fn.worker.seat ((l.fn.worker.start % l.fn.run.board.now.instances + k) % l.fn.run.board.now.instances);
}
