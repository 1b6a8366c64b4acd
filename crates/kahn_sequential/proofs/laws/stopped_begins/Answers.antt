use Rattle.kahn_sequential.proofs.Sizes
use Rattle.kahn_sequential.proofs.laws.stopped_begins.Goals as goal

pub returns : goal.returns
returns c = Sizes.begun
