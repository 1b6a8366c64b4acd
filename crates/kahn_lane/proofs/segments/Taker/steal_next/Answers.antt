use Rattle.kahn_lane.proofs.RelayMoves.{gets}
use Rattle.kahn_lane.proofs.segments.Taker.steal_next.Goals as goal

pub steal_as-requires-clause-takes : goal.steal_as-requires-clause-takes
steal_as-requires-clause-takes g c = gets _ _ c.loop.self.takes
