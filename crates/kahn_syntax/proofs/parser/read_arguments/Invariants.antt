use Rattle.kahn_syntax.proofs.Parsing.{AreMembers, ArgumentPart, ArgumentSpans, ArgumentsPart, ArgumentsTail, Close, Comma, sign, TokenPart, a_sign, length, [], ◌∷◌}
use Rattle.kahn_syntax.proofs.parser.read_arguments.Given as goal

abbrev pub invariant-arguments : goal.invariant-arguments
invariant-arguments l =
    AreMembers l.text (sign Comma) (ArgumentSpans l.text) (ArgumentsPart ∷ []) (ArgumentPart ∷ ArgumentsTail ∷ TokenPart (a_sign Close) ∷ []) l.arguments.items l.input l.rest

abbrev pub decreases-arguments : goal.decreases-arguments
decreases-arguments l = length l.rest
