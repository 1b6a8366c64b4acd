use Rattle.kahn_syntax.proofs.Parsing.{lexemes, Variables, variable_with, AreProper, Moves, VariablesPart, length, [], ◌∷◌, ◌≤◌}
use Rattle.kahn_syntax.proofs.parser.declaration.read_variables.Given as goal

abbrev pub invariant-variables : goal.invariant-variables
invariant-variables l = record {
  spans : Variables (lexemes l.text) variable_with l.variables.items l.input l.rest;
  shorter : length l.rest ≤ length l.input;
  proper : AreProper l.text l.rest;
  reads : Moves l.text 0 (VariablesPart ∷ []) (VariablesPart ∷ []) l.input l.rest;
}

abbrev pub decreases-variables : goal.decreases-variables
decreases-variables l = length l.rest
