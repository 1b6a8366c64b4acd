-- No instance so far is on a ring and waits on the channel.
use Rattle.kahn_graph.proofs.Common.{IsWaitAt, false, map, network_of, stands, ℕ, ◌<◌}
use Rattle.kahn_graph.proofs.nodes.is_ring_channel.Given as goal

abbrev pub invariant-loop-instance : goal.invariant-loop-instance
invariant-loop-instance l = (p : ℕ) → p < l.instance → IsWaitAt (network_of l.network) (map stands l.ends) l.channel p false
