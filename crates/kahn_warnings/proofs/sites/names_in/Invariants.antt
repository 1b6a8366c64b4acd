-- The names so far, with those of the statements that are left, are all.
use Rattle.kahn_warnings.proofs.Common.{List, [], assigns, contains, drop, is_assigned_in, is_used_in, list_any, uses_name, ℕ, ◌||◌, ◌∷◌, ◌≡◌}
use Rattle.kahn_warnings.proofs.Lists.{is_so}
use Rattle.kahn_warnings.proofs.sites.names_in.Given as goal

abbrev pub invariant-loop-statement : goal.invariant-loop-statement
invariant-loop-statement l =
    ((x : List ℕ) → contains l.used x || list_any (is_so (is_used_in 0) (x ∷ [])) (drop l.statement-index l.statement-items) ≡ uses_name l.process x)
    × ((x : List ℕ) → contains l.assigned x || list_any (is_so (is_assigned_in 0) (x ∷ [])) (drop l.statement-index l.statement-items) ≡ assigns l.process x)
