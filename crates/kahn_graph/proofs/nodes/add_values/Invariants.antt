-- The values that are left come after the text so far.
use Rattle.kahn_graph.proofs.Common.{Utf8, codes, drop, shadow, string_bytes, values_text, ◌++◌, ◌≡◌}
use Rattle.kahn_graph.proofs.nodes.add_values.Given as goal

abbrev pub invariant-loop-index : goal.invariant-loop-index
invariant-loop-index l =
    shadow (Utf8 l.before)
    × (string_bytes l.text ++ values_text l.before (drop l.index l.parameters) (drop l.index l.arguments)
    ≡ string_bytes l.initial.text ++ values_text (codes "\\n") l.parameters l.arguments)
