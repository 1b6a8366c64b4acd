use Rattle.kahn_lane.proofs.RelayMoves.{merges_blank}
use Rattle.kahn_lane.proofs.segments.Taker.meet.Goals as goal

pub absorb-requires-2-clause-rule : goal.absorb-requires-2-clause-rule
absorb-requires-2-clause-rule g c = merges_blank _ _ _ _
