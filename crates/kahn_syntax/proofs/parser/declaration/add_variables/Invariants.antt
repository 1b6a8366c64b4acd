use Rattle.kahn_syntax.proofs.Parsing.{map, variable_with, ◌++◌, ◌≡◌}
use Rattle.kahn_syntax.proofs.parser.declaration.add_variables.Given as goal

abbrev pub invariant-loop-name : goal.invariant-loop-name
invariant-loop-name l = record {
  items : l.variables.items ≡ l.initial.variables.items ++ map (variable_with l.kind) l.yielded;
}
