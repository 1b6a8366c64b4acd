use Rattle.kahn_sequential.proofs.Sizes
use Rattle.kahn_sequential.proofs.laws.finished_exactly.Goals as goal

pub returns : goal.returns
returns c = record { settles = Sizes.settles; counted = Sizes.counted }
