use Rattle.kahn_lane.proofs.lanes.lane_at.Given as goal

abbrev pub ghost-lane_from : goal.ghost-lane_from
ghost-lane_from g a = record { network = a.x.now; input = a.y.now }
