use Rattle.kahn_sequential.proofs.Turns.{turned}
use Rattle.kahn_sequential.proofs.rounds.Driver.pass_or_turn.Goals as goal

pub returns : goal.returns
returns g c = turned c.requires.may c.requires.here c.take_turn.ensures
