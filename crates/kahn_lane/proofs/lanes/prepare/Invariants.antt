use Rattle.kahn_lane.proofs.lanes.prepare.Given as goal

abbrev pub ghost-lane_from : goal.ghost-lane_from
ghost-lane_from g a = record { network = a.x.now.network.value; input = a.y.now }
