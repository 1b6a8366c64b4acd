use Rattle.kahn_input_notes.proofs.Placed.{always_placed}
use Rattle.kahn_input_notes.proofs.feeding.always_placed.Goals as goal

pub returns : goal.returns
returns c = always_placed
