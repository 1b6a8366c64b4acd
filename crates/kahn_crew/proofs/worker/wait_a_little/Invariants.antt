use Rattle.kahn_crew.proofs.Common.{IsSameWorker, SitsWith}
use Rattle.kahn_crew.proofs.worker.wait_a_little.Given as goal

abbrev pub invariant-loop-look : goal.invariant-loop-look
invariant-loop-look l = IsSameWorker l.fn.worker l.worker × SitsWith l.fn.run 0 l.worker.seat
