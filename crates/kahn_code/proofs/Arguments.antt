-- The arguments of an instance and the names of channels, one by one.
use Rattle.std.proofs.Common.{slice_get, append_assoc, append-nil}
use Rattle.kahn_streams.specs.declared.tree.Parameter.{Parameter}
pub use Rattle.kahn_streams.proofs.Entered.{names_count}
use Rattle.kahn_streams.proofs.Entered.{drop_some}
use Rattle.kahn_code.proofs.Common.{◌≡◌, ℕ, zero, suc, ◌+◌, List, [], ◌∷◌, ◌++◌, map, drop, Some, None, refl, sym, ap, ◌∙◌, add-one, Argument, Scope, Actual, actual_of, actuals_of}

drop_none : {A : Type 0} (xs : List A) (k : ℕ) → slice_get xs k ≡ None → drop k xs ≡ []
drop_none [] zero e = refl
drop_none [] (suc k) e = refl
drop_none (y ∷ xs) zero e = absurd cc
drop_none (y ∷ xs) (suc k) e = drop_none xs k e

no_arguments : (names : Scope) (ps : List Parameter) → actuals_of names ps [] ≡ []
no_arguments names [] = refl
no_arguments names (p ∷ ps) = refl

one_actual : (names : Scope) (ps : List Parameter) (xs : List Argument) (k : ℕ) (p : Parameter) (x : Argument) → slice_get ps k ≡ Some p → slice_get xs k ≡ Some x →
    actuals_of names (drop k ps) (drop k xs) ≡ actual_of names p.taking x ∷ actuals_of names (drop (suc k) ps) (drop (suc k) xs)
one_actual names ps xs k p x e f = rw (drop_some ps k p e, drop_some xs k x f) refl

-- one argument more
pub actual_more : {A : Type 0} (g : Actual → A) (names : Scope) (ps : List Parameter) (xs : List Argument) (k : ℕ) (p : Parameter) (x : Argument) (now new all : List A) →
    slice_get ps k ≡ Some p → slice_get xs k ≡ Some x → new ≡ now ++ g (actual_of names p.taking x) ∷ [] →
    (now ++ map g (actuals_of names (drop k ps) (drop k xs))) ≡ all → (new ++ map g (actuals_of names (drop (k + 1) ps) (drop (k + 1) xs))) ≡ all
actual_more g names ps xs k p x now new all e f h i =
    ap (λ l. l ++ map g (actuals_of names (drop (k + 1) ps) (drop (k + 1) xs))) h
    ∙ append_assoc now (g (actual_of names p.taking x) ∷ []) (map g (actuals_of names (drop (k + 1) ps) (drop (k + 1) xs)))
    ∙ ap (λ n. now ++ g (actual_of names p.taking x) ∷ map g (actuals_of names (drop n ps) (drop n xs))) (add-one k)
    ∙ sym (ap (λ l. now ++ map g l) (one_actual names ps xs k p x e f))
    ∙ i

-- no argument more
pub actual_none : {A : Type 0} (g : Actual → A) (names : Scope) (ps : List Parameter) (xs : List Argument) (k : ℕ) (now all : List A) →
    slice_get xs k ≡ None → (now ++ map g (actuals_of names (drop k ps) (drop k xs))) ≡ all → now ≡ all
actual_none g names ps xs k now all e i =
    sym (append-nil now) ∙ sym (ap (λ l. now ++ map g l) (ap (actuals_of names (drop k ps)) (drop_none xs k e) ∙ no_arguments names (drop k ps))) ∙ i
