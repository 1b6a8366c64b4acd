-- The channel that is to be watched, by its name.
use Rattle.kahn_sequential.proofs.Common.{arith, ◌≡◌, ℕ, zero, suc, ◌<◌, ◌≤◌, Bool, true, false, List, [], ◌∷◌, length, Some, refl, sym, ap, ◌∙◌, subst, cond, slice_get, bytes_eq, Scope, place_of, bytes_self, bytes_true}

stands_in : (b : Bool) (x y : List ℕ) (ys : Scope) → bytes_eq x y ≡ b → (place_of ys x < length ys → slice_get ys (place_of ys x) ≡ Some x) →
    cond b 0 (suc (place_of ys x)) < suc (length ys) → slice_get (y ∷ ys) (cond b 0 (suc (place_of ys x))) ≡ Some x
stands_in true x y ys e rest l = ap Some (sym (bytes_true x y e))
stands_in false x y ys e rest l = rest (omega (arith, l))

stands_there : (names : Scope) (x : List ℕ) → place_of names x < length names → slice_get names (place_of names x) ≡ Some x
stands_there [] x h = absurd (omega (arith, h))
stands_there (y ∷ ys) x h = stands_in (bytes_eq x y) x y ys refl (stands_there ys x) h

-- a name that has a place stands there
pub named_there : (names : Scope) (x : List ℕ) (c : ℕ) → c ≡ place_of names x → c < length names → slice_get names c ≡ Some x
named_there names x c e h = let t = stands_there names x (subst (λ n. n < length names) e h) in subst (λ n. slice_get names n ≡ Some x) (sym e) t

nowhere_in : (b : Bool) (x y : List ℕ) (ys : Scope) → bytes_eq x y ≡ b → (length ys ≤ place_of ys x → (k : ℕ) → slice_get ys k ≡ Some x → ⊥) →
    suc (length ys) ≤ cond b 0 (suc (place_of ys x)) → (k : ℕ) → slice_get (y ∷ ys) k ≡ Some x → ⊥
nowhere_in true x y ys i rest l k f = absurd (omega (arith, l))
nowhere_in false x y ys i rest l zero f =
    let same : y ≡ x = cc in
    let both : true ≡ false = sym (subst (λ z. bytes_eq x z ≡ true) (sym same) (bytes_self x)) ∙ i in
    absurd cc
nowhere_in false x y ys i rest l (suc k) f = rest (omega (arith, l)) k f

-- one that has none stands nowhere
pub named_nowhere : (names : Scope) (x : List ℕ) → length names ≤ place_of names x → (k : ℕ) → slice_get names k ≡ Some x → ⊥
named_nowhere (y ∷ ys) x h k e = nowhere_in (bytes_eq x y) x y ys refl (named_nowhere ys x) h k e
named_nowhere _ x h _ e = cc
