-- Expressions with a value by their constants have it.
use Rattle.kahn_warnings.proofs.Common.{Binary, Bool, Conditional, ConstantsHold, Divide, Division, Err, Expr, Fail, Failure, Give, If, Integer, Literal, Logical, Negate, None, Not, Ok, Operator, Option, Remainder, Result, Script, Some, Stmt, Store, Subtract, Tapes, Turns, Unequal, Value, Variable, Wait, While, ap, apply, arith, chosen, combined, constant, constant_of, divides, exec, false, from_0, fun_ext, if◌then◌else◌, int_div, int_rem, ints, is_zero, neg_ℤ, none-some, not, number, play, pos, ranged, refl, result_err, result_ok, same_Some, script_of, settle, suc, sure_fault, sym, true, truth, turns_of, value_of, truly, zero, ℕ, ◌&&◌, ◌-ℤ◌, ◌∙◌, ◌≡◌}

good_ok : (r : Result Value Failure) (v : Value) → result_ok r ≡ Some v → r ≡ Ok v
good_ok (Ok w) v e = ap Ok (same_Some w v e)
good_ok (Err k) v e = absurd (none-some v e)

bad_err : (r : Result Value Failure) (k : Failure) → result_err r ≡ Some k → r ≡ Err k
bad_err (Ok w) k e = absurd (none-some k e)
bad_err (Err j) k e = ap Err (same_Some j k e)

-- a sign takes its operand from 0
pub taken_from_0 : (w : Value) → ranged (neg_ℤ (number w)) ≡ apply Subtract (Integer (pos 0)) w
taken_from_0 w =
    let same : neg_ℤ (number w) ≡ pos 0 -ℤ number w = omega (arith, ints) in
    ap ranged same

negated_of : (x : Option Value) (v : Value) → combined Subtract from_0 x ≡ Some v → (w : Value) × (x ≡ Some w) × (ranged (neg_ℤ (number w)) ≡ Ok v)
negated_of None v h = absurd (none-some v h)
negated_of (Some w) v h = (w, refl, taken_from_0 w ∙ good_ok (apply Subtract (Integer (pos 0)) w) v h)

-- `not` tells it from true
pub told_from_true : (w : Value) → apply Unequal w (Logical true) ≡ Ok (Logical (not (truth w)))
told_from_true (Integer z) = refl
told_from_true (Logical true) = refl
told_from_true (Logical false) = refl

inverted_of : (x : Option Value) (v : Value) → combined Unequal x truly ≡ Some v → (w : Value) × (x ≡ Some w) × (Logical (not (truth w)) ≡ v)
inverted_of None v h = absurd (none-some v h)
inverted_of (Some w) v h =
    let is : apply Unequal w (Logical true) ≡ Ok v = good_ok (apply Unequal w (Logical true)) v h in
    (w, refl, cc (told_from_true w))

combined_of : (o : Operator) (x y : Option Value) (v : Value) → combined o x y ≡ Some v → (p q : Value) × (x ≡ Some p) × (y ≡ Some q) × (apply o p q ≡ Ok v)
combined_of o None y v h = absurd (none-some v h)
combined_of o (Some p) None v h = absurd (none-some v h)
combined_of o (Some p) (Some q) v h = (p, q, refl, refl, good_ok (apply o p q) v h)

chosen_of : (x a b : Option Value) (v : Value) → chosen x a b ≡ Some v → (w : Value) × (x ≡ Some w) × ((if truth w then a else b) ≡ Some v)
chosen_of None a b v h = absurd (none-some v h)
chosen_of (Some w) a b v h = (w, refl, h)

pub holds : {A : Type 0} (e : Expr) (v : Value) (s : Store) (next : Value → Script A) → constant_of e ≡ Some v → value_of e s next ≡ next v
holds (Literal c) v s next h = ap next (same_Some (constant c) v h)
holds (Variable x) v s next h = absurd (none-some v h)
holds (Wait q) v s next h = absurd (none-some v h)
holds (Negate e) v s next h =
    let (w, is, gives) = negated_of (constant_of e) v h in
    holds e w s _ is ∙ ap (λ r. settle r next) gives
holds (Not e) v s next h =
    let (w, is, gives) = inverted_of (constant_of e) v h in
    holds e w s _ is ∙ ap next gives
holds (Binary o a b) v s next h =
    let (p, q, is, his, gives) = combined_of o (constant_of a) (constant_of b) v h in
    holds a p s _ is ∙ (holds b q s _ his ∙ ap (λ r. settle r next) gives)
holds (Conditional t a b) v s next h =
    let (w, is, gives) = chosen_of (constant_of t) (constant_of a) (constant_of b) v h in
    holds t w s _ is ∙ taken (truth w) (holds a v s next) (holds b v s next) gives
  where
    taken : (c : Bool) → (constant_of a ≡ Some v → value_of a s next ≡ next v) → (constant_of b ≡ Some v → value_of b s next ≡ next v)
        → (if c then constant_of a else constant_of b) ≡ Some v → (elim c [ true ↦ value_of a s next | false ↦ value_of b s next ]) ≡ next v
    taken true first second g = first g
    taken false first second g = second g

pub sign_fails : {A : Type 0} (e : Expr) (k : Failure) (s : Store) (next : Value → Script A) → sure_fault Subtract from_0 (constant_of e) ≡ Some k → value_of (Negate e) s next ≡ Fail k
sign_fails e k s next h = by (constant_of e) refl h
  where
    by : (x : Option Value) → constant_of e ≡ x → sure_fault Subtract from_0 x ≡ Some k → value_of (Negate e) s next ≡ Fail k
    by None is g = absurd (none-some k g)
    by (Some w) is g = holds e w s (λ x. settle (ranged (neg_ℤ (number x))) next) is ∙ ap (λ r. settle r next) (taken_from_0 w ∙ bad_err (apply Subtract (Integer (pos 0)) w) k g)

zero_fails : (c : Bool) (r : Result Value Failure) (k : Failure) → (if c then Some Division else None) ≡ Some k → (if c then Err Division else r) ≡ Err k
zero_fails true r k g = ap Err (same_Some Division k g)
zero_fails false r k g = absurd (none-some k g)

by_zero : (o : Operator) (x y : Value) (k : Failure) → (if divides o && is_zero (number y) then Some Division else None) ≡ Some k → apply o x y ≡ Err k
by_zero Divide x y k h = zero_fails (is_zero (number y)) (ranged (int_div (number x) (number y))) k h
by_zero Remainder x y k h = zero_fails (is_zero (number y)) (ranged (int_rem (number x) (number y))) k h
by_zero o x y k h = absurd (none-some k h)

pub operator_fails : {A : Type 0} (o : Operator) (a b : Expr) (k : Failure) (s : Store) (next : Value → Script A) →
    sure_fault o (constant_of a) (constant_of b) ≡ Some k → value_of (Binary o a b) s next ≡ value_of a s (λ v. Fail k)
operator_fails {A = A} o a b k s next h = by (constant_of a) (constant_of b) refl refl h
  where
    by : (x y : Option Value) → constant_of a ≡ x → constant_of b ≡ y → sure_fault o x y ≡ Some k → value_of (Binary o a b) s next ≡ value_of a s (λ v. Fail k)
    by None None is his g = absurd (none-some k g)
    by (Some x) None is his g = absurd (none-some k g)
    by None (Some y) is his g =
        ap (value_of a s) (fun_ext (λ p. holds b y s (λ q. settle (apply o p q) next) his ∙ ap (λ r. settle r next) (by_zero o p y k g)))
    by (Some x) (Some y) is his g =
        holds a x s (λ p. value_of b s (λ q. settle (apply o p q) next)) is
        ∙ holds b y s (λ q. settle (apply o x q) next) his
        ∙ ap (λ r. settle r next) (bad_err (apply o x y) k g)
        ∙ sym (holds {A = A} a x s (λ v. Fail k) is)

branch_taken : (t : Expr) (a b : Stmt) (v : Value) → constant_of t ≡ Some v → (n : ℕ) (s : Store) (T : Tapes) → exec n (If t a b) s T ≡ exec n (if truth v then a else b) s T
branch_taken t a b v h n s T = ap (λ c. play n c T) (holds t v s _ h ∙ taken (truth v))
  where
    taken : (c : Bool) → (elim c [ true ↦ script_of n a s Give | false ↦ script_of n b s Give ]) ≡ script_of n (if c then a else b) s Give
    taken true = refl
    taken false = refl

no_turn : (t : Expr) (a : Stmt) (v : Value) → constant_of t ≡ Some v → truth v ≡ false → (n : ℕ) (s : Store) (T : Tapes) → exec n (While t a) s T ≡ play n (Turns (Give s)) T
no_turn t a v h f zero s T = refl
no_turn t a v h f (suc n) s T = ap (λ c. play (suc n) (Turns c) T) (holds t v s _ h ∙ passed (truth v) f)
  where
    passed : (c : Bool) → c ≡ false →
        (elim c [ true ↦ script_of (suc n) a s (λ r. turns_of n (λ r go. value_of t r go) (λ r go. script_of (suc n) a r go) r Give) | false ↦ Give s ]) ≡ Give s
    passed true g = cc
    passed false g = refl

pub constants_hold : ConstantsHold
constants_hold = record {
  value = λ e v h n s T. ap (λ c. play n c T) (holds e v s Give h);
  sign = λ e k h n s T. ap (λ c. play n c T) (sign_fails e k s Give h);
  operator = λ o a b k h n s T. ap (λ c. play n c T) (operator_fails o a b k s Give h);
  branch = branch_taken;
  turn = no_turn;
}
