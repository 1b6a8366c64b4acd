use Rattle.kahn_syntax.proofs.Parsing.{Ended, Takes, sign, Semicolon, DeclarationSpans, AreProper, declarations_nesting, DeclarationsPart, Moves, declaration_tree, length, map, [], ◌∷◌, ◌≤◌}
use Rattle.kahn_syntax.proofs.parser.declaration.read_declarations.Given as goal

abbrev pub invariant-declarations : goal.invariant-declarations
invariant-declarations l = record {
  nesting : declarations_nesting (map declaration_tree l.declarations.items) ≤ 64;
  spans : Ended (Takes l.text (sign Semicolon)) (DeclarationSpans l.text) l.declarations.items l.input l.rest;
  shorter : length l.rest ≤ length l.input;
  proper : AreProper l.text l.rest;
  reads : Moves l.text 0 (DeclarationsPart ∷ []) (DeclarationsPart ∷ []) l.input l.rest;
}

abbrev pub decreases-declarations : goal.decreases-declarations
decreases-declarations l = length l.rest
