use Rattle.kahn_crew.proofs.Common.{length}
use Rattle.kahn_crew.proofs.crew.+halt_all.Given as goal

abbrev pub decreases-halt_all : goal.decreases-halt_all
decreases-halt_all g l = length l.workers.items
