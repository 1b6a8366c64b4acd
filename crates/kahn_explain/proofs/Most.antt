-- Of which channel most values are left.
use Rattle.kahn_explain.proofs.Common.{arith, ◌≡◌, ◌⊎◌, inl, inr, ℕ, ◌+◌, ◌<◌, ◌≤◌, List, subst, cases_lt, Program, IsFullest, left_of}
use Rattle.kahn_sequential.specs.declared.counted.Count.{Count}

module _ (t : Program) (ns : List Count) (n : ℕ) where
  -- all of n channels, and of one more
  all_less : (m : ℕ) → ((d : ℕ) → d < n → left_of t ns d ≤ m) → left_of t ns n ≤ m → (d : ℕ) → d < n + 1 → left_of t ns d ≤ m
  all_less m h k d l = by (cases_lt d n)
    where
      by : (d < n) ⊎ (n ≤ d) → left_of t ns d ≤ m
      by (inl s) = h d s
      by (inr s) = subst (λ e. left_of t ns e ≤ m) (omega (arith, l, s)) k

  pub next_is : (x : ℕ × ℕ) (left : ℕ) → IsFullest t ns n x → left ≡ left_of t ns n → x.1 < left → IsFullest t ns (n + 1) (n, left)
  next_is x left (has, h) e more = ((λ some. (omega arith, e)), all_less left (λ d l. let k = h d l in omega (arith, k, more)) (omega (arith, e)))

  pub stays : (x : ℕ × ℕ) → IsFullest t ns n x → left_of t ns n ≤ x.1 → IsFullest t ns (n + 1) x
  stays x (has, h) few = ((λ some. let l = (has some).0 in (omega (arith, l), (has some).1)), all_less x.1 h few)
