use Rattle.kahn_streams.proofs.laws.sends_stand.Goals as goal
use Rattle.kahn_streams.proofs.Finished

pub returns : goal.returns
returns c = Finished.sends_stand
