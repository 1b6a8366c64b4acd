-- The nodes so far were added.
use Rattle.kahn_graph.proofs.Common.{IsAll, IsNode, List, string_bytes, ℕ, ◌++◌, ◌≡◌}
use Rattle.kahn_graph.proofs.nodes.add_nodes.Given as goal

abbrev pub invariant-loop-instance : goal.invariant-loop-instance
invariant-loop-instance l = (nodes : List ℕ) × IsAll (IsNode l.network l.source l.ends) l.instance nodes × (string_bytes l.text ≡ string_bytes l.initial.text ++ nodes)
