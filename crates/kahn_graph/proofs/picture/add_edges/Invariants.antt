-- The edges so far were added.
use Rattle.kahn_graph.proofs.Common.{IsAll, IsEdge, List, string_bytes, ℕ, ◌++◌, ◌≡◌}
use Rattle.kahn_graph.proofs.picture.add_edges.Given as goal

abbrev pub invariant-loop-channel : goal.invariant-loop-channel
invariant-loop-channel l = (edges : List ℕ) × IsAll (IsEdge l.network l.streams l.ends) l.channel edges × (string_bytes l.text ≡ string_bytes l.initial.text ++ edges)
