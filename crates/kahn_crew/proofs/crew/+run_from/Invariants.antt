use Rattle.kahn_crew.proofs.Common.{length}
use Rattle.kahn_crew.proofs.crew.+run_from.Given as goal

abbrev pub decreases-run_from : goal.decreases-run_from
decreases-run_from g l = length l.workers.items
