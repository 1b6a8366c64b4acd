use Rattle.kahn_sequential.proofs.Sizes
use Rattle.kahn_sequential.proofs.laws.verdict_is_one.Goals as goal

pub returns : goal.returns
returns c = Sizes.verdict_is_one
