-- What is found for one instance after another.
use Rattle.kahn_chain.proofs.Common.{◌≡◌, ℕ, zero, suc, ◌+◌, ◌⊎◌, inl, inr, List, [], ◌∷◌, ◌++◌, length, Some, ap, subst, sym, ◌∙◌, arith, length-append, slice_get}

-- it holds of what was found for the first n
pub record AreFirst {A : Type 0} (P : ℕ → A → Type 0) (n : ℕ) (ys : List A) : Type 0 where
  pub count : length ys ≡ n
  pub each : (p : ℕ) (y : A) → slice_get ys p ≡ Some y → P p y

last : {A : Type 0} (P : ℕ → A → Type 0) (ys : List A) (x y : A) (k p : ℕ) → P (k + length ys) x → slice_get (ys ++ (x ∷ [])) p ≡ Some y
    → ((slice_get ys p ≡ Some y) ⊎ P (k + p) y)
last P [] x y k zero h e = let same : x ≡ y = cc in inr (subst (P (k + 0)) same h)
last P [] x y k (suc p) h e = absurd cc
last P (z ∷ ys) x y k zero h e = inl e
last P (z ∷ ys) x y k (suc p) h e =
    elim (last P ys x y (suc k) p (subst (λ n. P n x) (omega arith) h) e) [
      | inl a ↦ inl a
      | inr b ↦ inr (subst (λ n. P n y) (omega arith) b)
    ]

pub one_more : {A : Type 0} (P : ℕ → A → Type 0) (n : ℕ) (ys zs : List A) (x : A) → AreFirst P n ys → P n x → zs ≡ ys ++ (x ∷ []) → AreFirst P (n + 1) zs
one_more P n ys zs x h is more = subst (AreFirst P (n + 1)) (sym more) (record {
  count = length-append ys (x ∷ []) ∙ ap (λ k. k + 1) h.count;
  each = λ p y e. elim (last P ys x y 0 p (subst (λ k. P k x) (omega (arith, h.count)) is) e) [
    | inl a ↦ h.each p y a
    | inr b ↦ subst (λ k. P k y) (omega arith) b
  ];
})
