use Rattle.kahn_lane.proofs.RelayMoves.{sends}
use Rattle.kahn_lane.proofs.segments.Giver.give.Goals as goal

pub push_as-requires-clause-pushes : goal.push_as-requires-clause-pushes
push_as-requires-clause-pushes g c = sends _ _ _ c.args.self.now.gives
