-- The names so far, with those of the statements that are left, are all.
use Rattle.kahn_warnings.proofs.Common.{List, [], assigned_by, contains, drop, is_assigned_in, is_used_in, list_any, statement_of, ℕ, ◌||◌, ◌∷◌, ◌≡◌}
use Rattle.kahn_warnings.proofs.Lists.{is_so}
use Rattle.kahn_warnings.proofs.sites.+add_both.Given as goal

abbrev pub invariant-loop-inner : goal.invariant-loop-inner
invariant-loop-inner l =
    ((x : List ℕ) → contains l.used x || list_any (is_so (is_used_in 0) (x ∷ [])) (drop l.inner-index l.inner-items) ≡ contains l.fn.used x || is_used_in 0 (statement_of (x ∷ []) l.fn.statement))
    × ((x : List ℕ) → contains l.assigned x || list_any (is_so (is_assigned_in 0) (x ∷ [])) (drop l.inner-index l.inner-items) ≡ contains l.fn.assigned x || assigned_by l.fn.statement.action x)
