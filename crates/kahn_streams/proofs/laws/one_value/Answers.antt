use Rattle.kahn_streams.proofs.laws.one_value.Goals as goal
use Rattle.kahn_streams.proofs.Proved

pub returns : goal.returns
returns c = Proved.one_value
