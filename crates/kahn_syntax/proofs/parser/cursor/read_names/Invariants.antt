use Rattle.kahn_syntax.proofs.Parsing.{AreMembers, NameSpans, NamesTail, TokenPart, Comma, sign, a_name, length, [], ◌∷◌}
use Rattle.kahn_syntax.proofs.parser.cursor.read_names.Given as goal

abbrev pub invariant-names : goal.invariant-names
invariant-names l =
    AreMembers l.text (sign Comma) (NameSpans l.text) (TokenPart a_name ∷ NamesTail ∷ []) (TokenPart a_name ∷ NamesTail ∷ []) l.names.items l.input l.rest

abbrev pub decreases-names : goal.decreases-names
decreases-names l = length l.rest
