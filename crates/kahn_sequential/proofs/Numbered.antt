-- The numbers of the streams that each instance writes.
use Rattle.std.proofs.Math.Nat.{min-le_left, min-le_right}
use Rattle.kahn_sequential.proofs.Common.{⊎_elim, arith, ◌≡◌, ◌⊎◌, inl, inr, ℕ, zero, suc, ◌+◌, ◌<◌, ◌≤◌, List, [], ◌∷◌, length, max, min, le-max_left, le-max_right, refl, set_here, sym, ap, ◌∙◌, subst, Some, slice_get, slice_index_or, slice_set, Line, Schema, NumberRange, Written, cases_eq, same_Some, slice_get_read, source, HasNumber, IsNumberOf}

-- the numbers of one instance more aren't less
pub each_least : (lists : List NumberRange) (instances : List ℕ) (n r from least next : ℕ) →
    ((k : ℕ) → k < n → (p : ℕ) → slice_get instances k ≡ Some p → (j : ℕ) → IsNumberOf lists p j → from ≤ j → least ≤ j) → next ≤ least → slice_get instances n ≡ Some r →
    ((j : ℕ) → IsNumberOf lists r j → from ≤ j → next ≤ j) →
    (k : ℕ) → k < n + 1 → (p : ℕ) → slice_get instances k ≡ Some p → (j : ℕ) → IsNumberOf lists p j → from ≤ j → next ≤ j
each_least lists instances n r from least next before few here one k lt p at j is le =
    ⊎_elim (λ e. one j (subst (λ q. IsNumberOf lists q j) (same_Some p r (sym at ∙ ap (slice_get instances) e ∙ here)) is) le)
    (λ other. let m = before k (omega (arith, lt, other)) p at j is le in omega (arith, m, few)) (cases_eq k n)

-- ---- one number more

set_other : {X : Type 0} (xs : List X) (p r : ℕ) (w : X) → (r ≡ p → ⊥) → slice_get (slice_set xs p w) r ≡ slice_get xs r
set_other [] p r w n = refl
set_other (x ∷ xs) zero zero w n = absurd (n refl)
set_other (x ∷ xs) zero (suc r) w n = refl
set_other (x ∷ xs) (suc p) zero w n = refl
set_other (x ∷ xs) (suc p) (suc r) w n = set_other xs p r w (λ e. n (ap suc e))

-- that of an instance reaches as far as before, and to one number more
pub one_more : (N : Schema) (c : Line) (n : ℕ) (spans : List NumberRange) (p : ℕ) (v w : NumberRange) → p < length spans → v ≡ slice_index_or spans p v → source N c ≡ Written p →
    w.first ≡ min v.first n → w.last ≡ max v.last n → HasNumber N c n spans (slice_set spans p w)
one_more N c n spans p v w l value is first last = (stays, λ r f. subst (λ k. IsNumberOf (slice_set spans p w) k n) (same p r (sym is ∙ f)) here)
  where
    same : (p r : ℕ) → Written p ≡ Written r → p ≡ r
    same p r e = cc

    at : slice_get spans p ≡ Some v
    at = slice_get_read spans (length spans) p v refl l value

    set : slice_get (slice_set spans p w) p ≡ Some w
    set = set_here spans p w l

    here : IsNumberOf (slice_set spans p w) p n
    here = (w, set, omega (arith, first, min-le_right v.first n), omega (arith, last, le-max_right v.last n))

    stays : (r j : ℕ) → IsNumberOf spans r j → IsNumberOf (slice_set spans p w) r j
    stays r j (x, f, from, to) = by (cases_eq r p)
      where
        by : (r ≡ p) ⊎ (r ≡ p → ⊥) → IsNumberOf (slice_set spans p w) r j
        by (inl e) =
            let is : x ≡ v = same_Some x v (sym f ∙ (ap (slice_get spans) e ∙ at)) in
            let from' : v.first ≤ j = subst (λ (k : NumberRange). k.first ≤ j) is from in
            let to' : j ≤ v.last = subst (λ (k : NumberRange). j ≤ k.last) is to in
            (w, ap (slice_get (slice_set spans p w)) e ∙ set, omega (arith, first, min-le_left v.first n, from'), omega (arith, last, le-max_left v.last n, to'))
        by (inr n) = (x, set_other spans p r w n ∙ f, from, to)
