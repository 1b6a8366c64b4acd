-- No stream so far is that of the channel.
use Rattle.kahn_graph.proofs.Common.{carried, length, ◌≡◌}
use Rattle.kahn_graph.proofs.nodes.carried.Given as goal

abbrev pub invariant-streams : goal.invariant-streams
invariant-streams l = carried l.rest l.channel ≡ carried l.streams l.channel

abbrev pub decreases-streams : goal.decreases-streams
decreases-streams l = length l.rest
