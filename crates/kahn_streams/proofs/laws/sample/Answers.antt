use Rattle.kahn_streams.proofs.laws.sample.Goals as goal
use Rattle.kahn_streams.proofs.Sampled

pub returns : goal.returns
returns c = Sampled.sample
