-- The names so far, with those of the operands that are left, are all.
use Rattle.kahn_warnings.proofs.Common.{List, [], contains, drop, expression_of, is_named, list_any, ℕ, ◌||◌, ◌∷◌, ◌≡◌}
use Rattle.kahn_warnings.proofs.Lists.{is_named_in}
use Rattle.kahn_warnings.proofs.sites.+add_named.Given as goal

abbrev pub invariant-loop-operand : goal.invariant-loop-operand
invariant-loop-operand l =
    (x : List ℕ) → contains l.names x || list_any (is_named_in (x ∷ [])) (drop l.operand-index l.operand-items)
    ≡ contains l.fn.names x || is_named 0 (expression_of (x ∷ []) l.fn.expression)
