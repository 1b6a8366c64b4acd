use Rattle.kahn_lane.proofs.lanes.lane_from.Given as goal

abbrev pub ghost-tag_by : goal.ghost-tag_by
ghost-tag_by g a = g.names
