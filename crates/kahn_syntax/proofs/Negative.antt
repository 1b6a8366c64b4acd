-- The negative of a number of 64 bits has 64 bits.
use Rattle.kahn_syntax.proofs.Common.{◌≡◌, ℕ, zero, suc, ◌≤◌, ℤ, pos, neg_ℤ, w64, sym, subst, arith, FitsSigned, largest_number}

at_pos : (m : ℕ) → m ≤ largest_number → FitsSigned w64 (neg_ℤ (pos m))
at_pos zero h = omega arith
at_pos (suc k) h = omega (arith, h)

pos_fits : (m : ℕ) → m ≤ largest_number → FitsSigned w64 (pos m)
pos_fits m h = omega (arith, h)

pub number_fits : (n : ℤ) (m : ℕ) → n ≡ pos m → m ≤ largest_number → FitsSigned w64 n
number_fits n m e h = subst (FitsSigned w64) (sym e) (pos_fits m h)

pub negative_fits : (n : ℤ) (m : ℕ) → n ≡ pos m → m ≤ largest_number → FitsSigned w64 (neg_ℤ n)
negative_fits n m e h = subst (λ k. FitsSigned w64 (neg_ℤ k)) (sym e) (at_pos m h)
