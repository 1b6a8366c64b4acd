use Rattle.kahn_sequential.proofs.Held_calls
use Rattle.kahn_sequential.proofs.laws.calls_go_on.Goals as goal

pub returns : goal.returns
returns c = record { calls = Held_calls.calls; answers = Held_calls.answers }
