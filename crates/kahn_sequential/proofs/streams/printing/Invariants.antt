use Rattle.kahn_sequential.proofs.Common.{◌≡◌, ◌++◌, drop, map, declaration_prints}
use Rattle.kahn_sequential.proofs.streams.printing.Given as goal

abbrev pub invariant-loop-declaration : goal.invariant-loop-declaration
invariant-loop-declaration l =
    l.printing.items ++ map declaration_prints (drop l.declaration-index l.declaration-items) ≡ map declaration_prints l.network.declarations.items
