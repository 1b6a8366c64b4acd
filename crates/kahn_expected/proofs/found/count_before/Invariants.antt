-- No lexeme so far has the span.
use Rattle.kahn_expected.proofs.Common.{Lexeme, get_or, ℕ, ◌<◌, ◌≡◌}
use Rattle.kahn_expected.proofs.found.count_before.Given as goal

abbrev pub invariant-loop-number : goal.invariant-loop-number
invariant-loop-number l = (k : ℕ) (d : Lexeme) → k < l.number → ¬ ((get_or l.lexemes k d).span ≡ l.span)
