use Rattle.kahn_sequential.proofs.Held_calls
use Rattle.kahn_sequential.proofs.laws.goes_on_same.Goals as goal

pub returns : goal.returns
returns c = Held_calls.goes_on_same
