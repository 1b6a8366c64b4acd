use Rattle.kahn_syntax.proofs.Parsing.{map, parameter_with, ◌++◌, ◌≡◌}
use Rattle.kahn_syntax.proofs.parser.declaration.add_parameters.Given as goal

abbrev pub invariant-loop-name : goal.invariant-loop-name
invariant-loop-name l = record {
  items : l.parameters.items ≡ l.initial.parameters.items ++ map (parameter_with l.taking) l.yielded;
}
