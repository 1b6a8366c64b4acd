-- What a set of names got.
use Rattle.kahn_warnings.proofs.Common.{Bool, List, None, Option, Some, [], ap, bytes_eq, cond, contains, false, if◌then◌else◌, is_some, lookup, lookup_append, nat_eq, nat_list_eq_equiv, option_or, refl, true, ℕ, ◌++◌, ◌||◌, ◌∙◌, ◌∷◌, ◌≡◌}

-- one name more
pub kept_one : (names : List (List ℕ × Unit {0})) (n x : List ℕ) → contains (names ++ (n, tt) ∷ []) x ≡ contains names x || nat_eq 0 (if bytes_eq n x then 0 else 1)
kept_one names n x =
    ap is_some (lookup_append (bytes_eq x) names ((n, tt) ∷ []))
    ∙ by (lookup (bytes_eq x) names) (bytes_eq x n) ∙ ap (λ b. contains names x || nat_eq 0 (if b then 0 else 1)) (nat_list_eq_equiv.symm x n)
  where
    by : (o : Option (Unit {0})) (b : Bool) → is_some (option_or o (cond b (Some tt) None)) ≡ is_some o || nat_eq 0 (if b then 0 else 1)
    by None true = refl
    by None false = refl
    by (Some u) b = refl
