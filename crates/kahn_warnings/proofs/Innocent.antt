-- Operators that aren't told have no such fault.
use Rattle.kahn_warnings.proofs.Common.{Add, Bool, Divide, Division, Err, Failure, Integer, IsOf64Bits, IsOperand, Logical, Multiply, None, Ok, Operator, Option, Overflow, Remainder, Result, Some, Subtract, Value, ap, apply, arith, arithmetic, can_fail, div-le_self, div-lt_self, divides, false, fits_64, from_0, if◌then◌else◌, int_div, int_rem, is_failure, is_zero, least, nat_lt, neg_ℤ, negsuc, number, operator_can, pos, ranged, refl, rem_below, result_err, subst, suc, sym, true, unsigned_abs, zero, ℕ, ℤ, ◌*ℤ◌, ◌+ℤ◌, ◌-ℤ◌, ◌/◌, ◌<◌, ◌^◌, ◌∙◌, ◌≡◌, ◌≤◌}
use Rattle.kahn_warnings.proofs.Holding.{taken_from_0}

true_not : (b : Bool) → b ≡ true → b ≡ false → ⊥
true_not true e f = cc
true_not false e f = cc

-- ---- quotients and remainders

short_less : (n : ℕ) → nat_lt n (2 ^ 63) ≡ true → n < 2 ^ 63
short_less n e = grind (arith, e)

less_short : (n : ℕ) → n < 2 ^ 63 → nat_lt n (2 ^ 63) ≡ true
less_short n h = by (nat_lt n (2 ^ 63)) refl
  where
    by : (b : Bool) → nat_lt n (2 ^ 63) ≡ b → b ≡ true
    by true e = refl
    by false e = absurd (grind (arith, e, h))

within : (z : ℤ) → unsigned_abs z < 2 ^ 63 → fits_64 z ≡ true
within (pos n) h = less_short n h
within (negsuc n) h = less_short n (omega (arith, h))

within_neg : (n : ℕ) → n ≤ 2 ^ 63 → fits_64 (neg_ℤ (pos n)) ≡ true
within_neg zero h = refl
within_neg (suc n) h = less_short n (omega (arith, h))

rem_fits : (x d : ℤ) → fits_64 d ≡ true → is_zero d ≡ false → fits_64 (int_rem x d) ≡ true
rem_fits x (pos zero) f z = absurd cc
rem_fits x (pos (suc b)) f z = within (int_rem x (pos (suc b))) (omega (arith, rem_below x (pos (suc b)), short_less (suc b) f))
rem_fits x (negsuc b) f z = within (int_rem x (negsuc b)) (omega (arith, rem_below x (negsuc b), short_less b f))

halved : (a b : ℕ) → suc a / suc (suc b) < suc a
halved a b = div-lt_self (omega arith) (omega arith)

div_fits : (x d : ℤ) → fits_64 x ≡ true → is_zero d ≡ false → is_failure Overflow (result_err (arithmetic Divide (number least) d)) ≡ false → fits_64 (int_div x d) ≡ true
div_fits x (pos zero) f z m = absurd cc
div_fits (pos a) (pos (suc b)) f z m = less_short (a / suc b) (omega (arith, div-le_self a (suc b), short_less a f))
div_fits (negsuc a) (pos (suc b)) f z m = within_neg (suc a / suc b) (omega (arith, div-le_self (suc a) (suc b), short_less a f))
div_fits x (negsuc zero) f z m =
    let bad : true ≡ false = m in
    absurd cc
div_fits (pos a) (negsuc (suc b)) f z m = within_neg (a / suc (suc b)) (omega (arith, div-le_self a (suc (suc b)), short_less a f))
div_fits (negsuc a) (negsuc (suc b)) f z m = less_short (suc a / suc (suc b)) (omega (arith, halved a b, short_less a f))

-- ---- what an outcome is

pub ranged_fits : (z : ℤ) (k : Failure) → fits_64 z ≡ true → ranged z ≡ Err k → ⊥
ranged_fits z k f = by (fits_64 z) f
  where
    by : (b : Bool) → b ≡ true → (if b then Ok (Integer z) else Err Overflow) ≡ Err k → ⊥
    by true g e = cc
    by false g e = cc

pub ranged_whole : (z : ℤ) → ranged z ≡ Err Division → ⊥
ranged_whole z = by (fits_64 z)
  where
    by : (b : Bool) → (if b then Ok (Integer z) else Err Overflow) ≡ Err Division → ⊥
    by true e = cc
    by false e = cc

pub ranged_short : (z : ℤ) (u : Value) → ranged z ≡ Ok u → IsOf64Bits u
ranged_short z u = by (fits_64 z) refl
  where
    by : (b : Bool) → fits_64 z ≡ b → (if b then Ok (Integer z) else Err Overflow) ≡ Ok u → IsOf64Bits u
    by true f e =
        let is : Integer z ≡ u = cc in
        subst IsOf64Bits is f
    by false f e = absurd cc

divided : (b : Bool) (z : ℤ) (k : Failure) → (if b then Err Division else ranged z) ≡ Err k → (b ≡ true → k ≡ Division → ⊥) → (b ≡ false → ranged z ≡ Err k → ⊥) → ⊥
divided true z k e p q = p refl cc
divided false z k e p q = q refl e

divided_short : (b : Bool) (z : ℤ) (u : Value) → (if b then Err Division else ranged z) ≡ Ok u → IsOf64Bits u
divided_short true z u e = absurd cc
divided_short false z u e = ranged_short z u e

truth_short : (b : Bool) (u : Value) → ◌≡◌ {A = Result Value Failure} (Ok (Logical b)) (Ok u) → IsOf64Bits u
truth_short b u e =
    let is : Logical b ≡ u = cc in
    subst IsOf64Bits is refl

pub apply_short : (o : Operator) (v w u : Value) → apply o v w ≡ Ok u → IsOf64Bits u
apply_short Add v w u e = ranged_short (number v +ℤ number w) u e
apply_short Subtract v w u e = ranged_short (number v -ℤ number w) u e
apply_short Multiply v w u e = ranged_short (number v *ℤ number w) u e
apply_short Divide v w u e = divided_short (is_zero (number w)) (int_div (number v) (number w)) u e
apply_short Remainder v w u e = divided_short (is_zero (number w)) (int_rem (number v) (number w)) u e
apply_short o v w u e = truth_short _ u e

-- ---- operators

never : (k : Failure) (o : Operator) (v w : Value) → can_fail k o ≡ false → IsOf64Bits w → apply o v w ≡ Err k → ⊥
never Division Add v w h s e = ranged_whole (number v +ℤ number w) e
never Division Subtract v w h s e = ranged_whole (number v -ℤ number w) e
never Division Multiply v w h s e = ranged_whole (number v *ℤ number w) e
never Overflow Remainder v w h s e =
    divided (is_zero (number w)) (int_rem (number v) (number w)) Overflow e (λ z is. cc) (λ z. ranged_fits (int_rem (number v) (number w)) Overflow (rem_fits (number v) (number w) s z))
never k o v w h s e = absurd cc

not_by_zero : (b : Bool) (r : Result Value Failure) → is_failure Division (result_err (if b then Err Division else r)) ≡ false → b ≡ true → ⊥
not_by_zero true r h e = cc
not_by_zero false r h e = cc

by_divisor : (k : Failure) (o : Operator) (v w : Value) → divides o ≡ true → is_failure k (result_err (apply o least w)) ≡ false → IsOf64Bits v → IsOf64Bits w → apply o v w ≡ Err k → ⊥
by_divisor Division Divide v w d h p q e =
    divided (is_zero (number w)) (int_div (number v) (number w)) Division e (λ z is. not_by_zero (is_zero (number w)) _ h z) (λ z. ranged_whole (int_div (number v) (number w)))
by_divisor Division Remainder v w d h p q e =
    divided (is_zero (number w)) (int_rem (number v) (number w)) Division e (λ z is. not_by_zero (is_zero (number w)) _ h z) (λ z. ranged_whole (int_rem (number v) (number w)))
by_divisor Overflow Divide v w d h p q e =
    divided (is_zero (number w)) (int_div (number v) (number w)) Overflow e (λ z is. cc) (λ z. ranged_fits (int_div (number v) (number w)) Overflow (div_fits (number v) (number w) p z h))
by_divisor Overflow Remainder v w d h p q e = never Overflow Remainder v w refl q e
by_divisor k o v w d h p q e = absurd cc

same_failure : (k : Failure) → is_failure k (Some k) ≡ true
same_failure Overflow = refl
same_failure Division = refl

known : (k : Failure) (r : Result Value Failure) → is_failure k (result_err r) ≡ false → r ≡ Err k → ⊥
known k r h e = true_not (is_failure k (result_err r)) (ap (λ x. is_failure k (result_err x)) e ∙ same_failure k) h

pub operator : (k : Failure) (o : Operator) (l r : Option Value) → operator_can k o l r ≡ false → (v w : Value) → IsOperand l v → IsOperand r w → apply o v w ≡ Err k → ⊥
operator k o None None h v w p q e = never k o v w h q e
operator k o (Some a) None h v w p q e = never k o v w h q e
operator k o (Some a) (Some b) h v w p q e = known k (apply o a b) h ((λ i. apply o (sym p.1 i) (sym q.1 i)) ∙ e)
operator k o None (Some b) h v w p q e = by (divides o) refl h
  where
    by : (d : Bool) → divides o ≡ d → (if d then is_failure k (result_err (apply o least b)) else can_fail k o) ≡ false → ⊥
    by true is g = by_divisor k o v w is (ap (λ x. is_failure k (result_err (apply o least x))) q.1 ∙ g) p q.0 e
    by false is g = never k o v w g q.0 e

pub sign : (k : Failure) (o : Option Value) → operator_can k Subtract from_0 o ≡ false → (v : Value) → IsOperand o v → ranged (neg_ℤ (number v)) ≡ Err k → ⊥
sign k o h v p e = operator k Subtract from_0 o h (Integer (pos 0)) v (refl, refl) p (sym (taken_from_0 v) ∙ e)

pub some : (k : Failure) (o : Operator) → operator_can k o None None ≡ true → (v : Value) × (w : Value) × IsOf64Bits v × IsOf64Bits w × (apply o v w ≡ Err k)
some Overflow Add h = (Integer (pos 9223372036854775807), Integer (pos 1), refl, refl, refl)
some Overflow Subtract h = (Integer (negsuc 9223372036854775807), Integer (pos 1), refl, refl, refl)
some Overflow Multiply h = (Integer (pos 9223372036854775807), Integer (pos 2), refl, refl, refl)
some Overflow Divide h = (Integer (negsuc 9223372036854775807), Integer (negsuc 0), refl, refl, refl)
some Division Divide h = (Integer (pos 1), Integer (pos 0), refl, refl, refl)
some Division Remainder h = (Integer (pos 1), Integer (pos 0), refl, refl, refl)
some k o h = absurd cc

failed : (k : Failure) (r : Result Value Failure) → is_failure k (result_err r) ≡ true → r ≡ Err k
failed Overflow (Err Overflow) h = refl
failed Division (Err Division) h = refl
failed k r h = absurd cc

pub divisor : (k : Failure) (o : Operator) (w : Value) → divides o ≡ true → operator_can k o None (Some w) ≡ true → (v : Value) × IsOf64Bits v × (apply o v w ≡ Err k)
divisor k o w d h = (least, refl, failed k (apply o least w) (ap (λ b. if b then is_failure k (result_err (apply o least w)) else can_fail k o) (sym d) ∙ h))
