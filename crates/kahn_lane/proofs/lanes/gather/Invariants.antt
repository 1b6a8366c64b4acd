use Rattle.kahn_lane.proofs.lanes.gather.Given as goal

abbrev pub ghost-tag_by : goal.ghost-tag_by
ghost-tag_by g a = record { network = a._x.now.network.value; input = a._y.now }
