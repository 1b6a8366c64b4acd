use Rattle.kahn_streams.proofs.laws.solves.Goals as goal
use Rattle.kahn_streams.proofs.Proved

pub returns : goal.returns
returns c = Proved.solves
