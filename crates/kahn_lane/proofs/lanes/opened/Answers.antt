use Rattle.std.proofs.Common.{rules}
use Rattle.kahn_lane.proofs.LaneMoves.{tells}
use Rattle.kahn_lane.proofs.lanes.opened.Goals as goal

pub push_as-requires-clause-pushes : goal.push_as-requires-clause-pushes
push_as-requires-clause-pushes g c = tells _ _ _ _ (search rules) c.args.tag.limited
