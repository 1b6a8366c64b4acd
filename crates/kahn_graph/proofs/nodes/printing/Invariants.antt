-- What is asked of the declarations that are left comes after what was asked so far.
use Rattle.kahn_graph.proofs.Common.{declaration_prints, drop, map, ◌++◌, ◌≡◌}
use Rattle.kahn_graph.proofs.nodes.printing.Given as goal

abbrev pub invariant-loop-declaration : goal.invariant-loop-declaration
invariant-loop-declaration l = l.list.items ++ map declaration_prints (drop l.declaration-index l.declaration-items) ≡ map declaration_prints l.network.declarations.items
