use Rattle.kahn_syntax.proofs.Parsing.{lexemes, ParameterGroup, AreProper, GroupPart, Grouped, GroupsPart, GroupsTail, Lexeme, List, Moves, Name, SomeParametersSpan, Taking, length, members_of, parameter_with, [], ◌++◌, ◌∷◌, ◌≤◌}
use Rattle.kahn_syntax.proofs.parser.declaration.read_parameters.Given as goal

abbrev pub invariant-groups : goal.invariant-groups
invariant-groups l = record {
  spans : (g : Grouped Taking Name) (r : List Lexeme) → ParameterGroup (lexemes l.text) g l.rest r → SomeParametersSpan l.text (l.parameters.items ++ members_of parameter_with g) l.input r;
  shorter : length l.rest ≤ length l.input;
  proper : AreProper l.text l.rest;
  reads : Moves l.text 0 (GroupsPart ∷ []) (GroupPart ∷ GroupsTail ∷ []) l.input l.rest;
}

abbrev pub decreases-groups : goal.decreases-groups
decreases-groups l = length l.rest
