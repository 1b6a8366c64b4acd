-- A name that is added to those that are found by their text.
use Rattle.kahn_check.proofs.Common.{◌≡◌, ℕ, Bool, true, false, cond, List, [], ◌∷◌, ◌++◌, Option, None, Some, is_some, refl, ap, sym, ◌∙◌, bytes_eq, arith, option_or, lookup, update, bytes_true, bytes_self, AreFound}
use Rattle.std.proofs.lemmas.Slice.Eq.{bytes_eq-Decides}
use Rattle.kahn_check.proofs.Wired.{lookup_append}

or_none : {X : Type 0} (o : Option X) → option_or o None ≡ o
or_none None = refl
or_none (Some x) = refl

-- what x stands for once y stands for w
with_name : {V : Type 0} (listed : List (List ℕ × V)) (x y : List ℕ) (w : V) → lookup (bytes_eq x) (listed ++ (y, w) ∷ []) ≡ option_or (lookup (bytes_eq x) listed) (cond (bytes_eq x y) (Some w) None)
with_name listed x y w = lookup_append (bytes_eq x) listed ((y, w) ∷ [])

-- a name that stands for something already
pub still_found : {V : Type 0} (listed : List (List ℕ × V)) (found : List ℕ → Option V) (y : List ℕ) (w : V) →
    is_some (lookup (bytes_eq y) listed) ≡ true → AreFound listed found → AreFound (listed ++ (y, w) ∷ []) found
still_found {V} listed found y w there known x = known x ∙ by (bytes_eq x y) refl ∙ sym (with_name listed x y w)
  where
    some : (o : Option V) → is_some o ≡ true → o ≡ option_or o (Some w)
    some None h = cc
    some (Some v) h = refl

    by : (c : Bool) → bytes_eq x y ≡ c → lookup (bytes_eq x) listed ≡ option_or (lookup (bytes_eq x) listed) (cond c (Some w) None)
    by true i = some (lookup (bytes_eq x) listed) (ap (λ z. is_some (lookup (bytes_eq z) listed)) (bytes_true x y i) ∙ there)
    by false i = sym (or_none (lookup (bytes_eq x) listed))

-- and one that stands for nothing yet
pub new_found : {V : Type 0} (listed : List (List ℕ × V)) (found : List ℕ → Option V) (y : List ℕ) (w : V) → lookup (bytes_eq y) listed ≡ None → AreFound listed found →
    (now : List ℕ → Option V) → ((x : List ℕ) → now x ≡ update bytes_eq found y (Some w) x) → AreFound (listed ++ (y, w) ∷ []) now
new_found listed found y w free known now updates x = by (bytes_eq x y) refl ∙ sym (with_name listed x y w)
  where
    by : (c : Bool) → bytes_eq x y ≡ c → now x ≡ option_or (lookup (bytes_eq x) listed) (cond c (Some w) None)
    by true i =
        let same : x ≡ y = bytes_true x y i in
        let new : now y ≡ Some w = updates y ∙ ap (λ z. cond z (Some w) (found y)) (bytes_self y) in
        rw same (new ∙ sym (ap (λ o. option_or o (Some w)) free))
    by false i =
        let turned : bytes_eq y x ≡ false = grind (arith, i, bytes_eq-Decides x y, bytes_eq-Decides y x) in
        let old : now x ≡ found x = updates x ∙ ap (λ z. cond z (Some w) (found x)) turned in
        old ∙ known x ∙ sym (or_none (lookup (bytes_eq x) listed))
