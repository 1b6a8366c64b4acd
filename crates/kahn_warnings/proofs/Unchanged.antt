-- A loop that gives no value to a name of its test, which doesn't wait, never ends once that came true; and a name that gets no value keeps
-- the one that it has.
use Rattle.kahn_warnings.proofs.Common.{Assign, Binary, Bool, Conditional, Constant, Cut, Dry, Err, Expr, Failure, Fault, Give, Got, If, Integer, IsUnchanged, Literal, Logical, Negate, None, Not, Ok, Option, Parameter, Print, Printer, Repeat, Result, Script, ScriptOutcome, Send, Sends, Seq, Skip, Some, Stmt, Store, Tapes, Turns, Value, Variable, Wait, While, ap, apply, arith, at_once, constant, eval, exec, false, fun_ext, get_or-set_other, is_assigned_in, is_named, nat_eq, neg_ℤ, none-some, not, number, play, pos, ranged, read, refl, same_Some, script_of, settle, slice_set, subst, suc, sym, true, true≢false, truth, turns_of, value_of, waits_in, zero, ℕ, ◌||◌, ◌∙◌, ◌≡◌, or_left, or_parts, or_right}

itself : (x : ℕ) → nat_eq x x ≡ true
itself x = grind arith

apart : (y x : ℕ) → nat_eq y x ≡ false → y ≡ x → ⊥
apart y x h e = true≢false (sym (itself y) ∙ (ap (nat_eq y) e ∙ h))

-- ---- an expression that doesn't wait has its value, or its fault, at once

abbrev then : Result Value Failure → (Value → Result Value Failure) → Result Value Failure
then (Ok v) f = f v
then (Err k) f = Err k

abbrev result_of : Expr → Store → Result Value Failure
result_of (Literal c) s = Ok (constant c)
result_of (Variable x) s = Ok (read s x)
result_of (Wait q) s = Ok (Integer (pos 0))
result_of (Negate e) s = then (result_of e s) (λ v. ranged (neg_ℤ (number v)))
result_of (Not e) s = then (result_of e s) (λ v. Ok (Logical (not (truth v))))
result_of (Binary o a b) s = then (result_of a s) (λ v. then (result_of b s) (λ w. apply o v w))
result_of (Conditional t a b) s = then (result_of t s) (λ v. elim (truth v) [ true ↦ result_of a s | false ↦ result_of b s ])

settle_then : {A : Type 0} (r : Result Value Failure) (f : Value → Result Value Failure) (next : Value → Script A) →
    settle r (λ v. settle (f v) next) ≡ settle (then r f) next
settle_then (Ok v) f next = refl
settle_then (Err k) f next = refl

-- these values agree on the names of an expression
abbrev Agree : Expr → Store → Store → Type 0
Agree t s r = (x : ℕ) → is_named x t ≡ true → read r x ≡ read s x

comes_to : {A : Type 0} (t : Expr) (s r : Store) (next : Value → Script A) → waits_in t ≡ false → Agree t s r → value_of t r next ≡ settle (result_of t s) next
comes_to (Literal c) s r next h is = refl
comes_to (Variable x) s r next h is = ap next (is x (itself x))
comes_to (Wait q) s r next h is = absurd cc
comes_to (Negate e) s r next h is =
    comes_to e s r (λ v. settle (ranged (neg_ℤ (number v))) next) h is ∙ settle_then (result_of e s) (λ v. ranged (neg_ℤ (number v))) next
comes_to (Not e) s r next h is =
    comes_to e s r (λ v. next (Logical (not (truth v)))) h is ∙ settle_then (result_of e s) (λ v. Ok (Logical (not (truth v)))) next
comes_to (Binary o a b) s r next h is =
    let clear = or_parts (waits_in a) (waits_in b) h in
    comes_to a s r (λ v. value_of b r (λ w. settle (apply o v w) next)) clear.0 (λ x n. is x (or_left (is_named x a) (is_named x b) n))
    ∙ (ap (settle (result_of a s)) (fun_ext (λ v. comes_to b s r (λ w. settle (apply o v w) next) clear.1 (λ x n. is x (or_right (is_named x a) (is_named x b) n))
    ∙ settle_then (result_of b s) (λ w. apply o v w) next))
    ∙ settle_then (result_of a s) (λ v. then (result_of b s) (λ w. apply o v w)) next)
comes_to {A = A} (Conditional t a b) s r next h is =
    let clear = or_parts (waits_in t || waits_in a) (waits_in b) h in
    let nor = or_parts (waits_in t) (waits_in a) clear.0 in
    let first = comes_to a s r next nor.1 (λ x n. is x (or_left (is_named x t || is_named x a) (is_named x b) (or_right (is_named x t) (is_named x a) n))) in
    let second = comes_to b s r next clear.1 (λ x n. is x (or_right (is_named x t || is_named x a) (is_named x b) n)) in
    comes_to t s r (λ v. elim (truth v) [ true ↦ value_of a r next | false ↦ value_of b r next ]) nor.0
    (λ x n. is x (or_left (is_named x t || is_named x a) (is_named x b) (or_left (is_named x t) (is_named x a) n)))
    ∙ (ap (settle (result_of t s)) (fun_ext (λ v. branch (truth v) first second))
    ∙ settle_then (result_of t s) (λ v. elim (truth v) [ true ↦ result_of a s | false ↦ result_of b s ]) next)
  where
    branch : (c : Bool) → value_of a r next ≡ settle (result_of a s) next → value_of b r next ≡ settle (result_of b s) next →
        ◌≡◌ {A = Script A} (elim c [ true ↦ value_of a r next | false ↦ value_of b r next ]) (settle (elim c [ true ↦ result_of a s | false ↦ result_of b s ]) next)
    branch true p q = p
    branch false p q = q

abbrev got_of : ScriptOutcome Value → Option Value
got_of (Got v) = Some v
got_of (Dry q) = None
got_of (Fault k) = None
got_of Cut = None

is_ok : (r : Result Value Failure) (n : ℕ) (T : Tapes) (v : Value) → play n (settle r Give) T ≡ at_once (Got v) T → r ≡ Ok v
is_ok (Ok w) n T v h = ap Ok (same_Some w v (ap (λ r. got_of r.outcome) h))
is_ok (Err k) n T v h = absurd (none-some v (ap (λ r. got_of r.outcome) h))

-- ---- a statement that gives these names no value goes on alike where what is behind it does for all values that agree

pub same_branch : {A : Type 0} (c : Bool) (x y x' y' : Script A) → x ≡ x' → y ≡ y' →
    ◌≡◌ {A = Script A} (elim c [ true ↦ x | false ↦ y ]) (elim c [ true ↦ x' | false ↦ y' ])
same_branch true x y x' y' h g = h
same_branch false x y x' y' h g = g

-- a loop whose test comes to a true value wherever such values hold, which its body keeps, goes on alike whatever is behind it
pub never_out : {A : Type 0} (P : Store → Type 0) (test : Store → (Value → Script A) → Script A) (body : Store → (Store → Script A) → Script A) (v : Value) → truth v ≡ true
    → ((r : Store) (go : Value → Script A) → P r → test r go ≡ go v)
    → ((r : Store) (f g : Store → Script A) → P r → ((q : Store) → P q → f q ≡ g q) → body r f ≡ body r g)
    → (j : ℕ) (r : Store) (f g : Store → Script A) → P r → turns_of j test body r f ≡ turns_of j test body r g
never_out P test body v is came kept zero r f g its = refl
never_out {A = A} P test body v is came kept (suc j) r f g its =
    ap Turns (entered f ∙ (kept r _ _ its (λ q ours. never_out P test body v is came kept j q f g ours) ∙ sym (entered g)))
  where
    taken : (c : Bool) (x y : Script A) → c ≡ true → (elim c [ true ↦ x | false ↦ y ]) ≡ x
    taken true x y e = refl
    taken false x y e = absurd cc

    entered : (e : Store → Script A) → test r (λ w. elim (truth w) [ true ↦ body r (λ q. turns_of j test body q e) | false ↦ e r ]) ≡ body r (λ q. turns_of j test body q e)
    entered e = came r _ its ∙ taken (truth v) _ _ is

module _ (t : Expr) (s : Store) where
  abbrev Spares : Stmt → Type 0
  Spares a = (x : ℕ) → is_named x t ≡ true → is_assigned_in x a ≡ false

  -- both go on alike
  abbrev Alike : {A : Type 0} → (Store → Script A) → (Store → Script A) → Type 0
  Alike f g = (r : Store) → Agree t s r → f r ≡ g r

  assigned : (x : ℕ) (r : Store) (v : Value) → ((y : ℕ) → is_named y t ≡ true → nat_eq y x ≡ false) → Agree t s r → Agree t s (slice_set r x v)
  assigned x r v other is y named = get_or-set_other r x y v (Integer (pos 0)) (apart y x (other y named)) ∙ is y named

  turned : {A : Type 0} (j : ℕ) (test : Store → (Value → Script A) → Script A) (body : Store → (Store → Script A) → Script A)
      → ((r : Store) (f g : Store → Script A) → Agree t s r → Alike f g → body r f ≡ body r g)
      → (r : Store) (f g : Store → Script A) → Agree t s r → Alike f g → turns_of j test body r f ≡ turns_of j test body r g
  turned zero test body kept r f g is h = refl
  turned {A = A} (suc j) test body kept r f g is h =
      ap (λ (x : Value → Script A). Turns (test r x))
      (fun_ext (λ v. same_branch (truth v) _ _ _ _ (kept r _ _ is (λ q its. turned j test body kept q f g its h)) (h r is)))

  kept : {A : Type 0} (k : ℕ) (a : Stmt) (r : Store) (f g : Store → Script A) → Spares a → Agree t s r → Alike f g → script_of k a r f ≡ script_of k a r g
  kept k Skip r f g spared is h = h r is
  kept k (Assign x e) r f g spared is h = ap (value_of e r) (fun_ext (λ v. h (slice_set r x v) (assigned x r v spared is)))
  kept k (Send e q) r f g spared is h = ap (value_of e r) (fun_ext (λ v. ap (Sends (Parameter q) v) (h r is)))
  kept k (Print e) r f g spared is h = ap (value_of e r) (fun_ext (λ v. ap (Sends Printer v) (h r is)))
  kept k (Seq a b) r f g spared is h =
      kept k a r (λ q. script_of k b q f) (λ q. script_of k b q g) (λ x n. (or_parts (is_assigned_in x a) (is_assigned_in x b) (spared x n)).0) is
      (λ q its. kept k b q f g (λ x n. (or_parts (is_assigned_in x a) (is_assigned_in x b) (spared x n)).1) its h)
  kept k (If c a b) r f g spared is h =
      ap (value_of c r) (fun_ext (λ v. same_branch (truth v) _ _ _ _
      (kept k a r f g (λ x n. (or_parts (is_assigned_in x a) (is_assigned_in x b) (spared x n)).0) is h)
      (kept k b r f g (λ x n. (or_parts (is_assigned_in x a) (is_assigned_in x b) (spared x n)).1) is h)))
  kept k (While c a) r f g spared is h =
      turned k (λ q go. value_of c q go) (λ q go. script_of k a q go) (λ q d e its m. kept k a q d e spared its m) r f g is h
  kept k (Repeat a) r f g spared is h =
      turned k (λ q go. go (Logical true)) (λ q go. script_of k a q go) (λ q d e its m. kept k a q d e spared its m) r f g is h

pub never_left : (t : Expr) (a b : Stmt) → IsUnchanged t a → (n : ℕ) (s : Store) (T : Tapes) (v : Value) → eval n t s T ≡ at_once (Got v) T → truth v ≡ true →
    exec n (Seq (While t a) b) s T ≡ exec n (While t a) s T
never_left t a b is n s T v came true' =
    let has = is_ok (result_of t s) n T v (ap (λ c. play n c T) (sym (comes_to t s s Give is.0 (λ x named. refl))) ∙ came) in
    ap (λ c. play n c T)
    (never_out (Agree t s) (λ q go. value_of t q go) (λ q go. script_of n a q go) v true' (λ r go its. comes_to t s r go is.0 its ∙ ap (λ x. settle x go) has)
    (λ r f g its h. kept t s n a r f g is.1 its h) n s (λ r. script_of n b r Give) Give (λ x named. refl))

one_name : (y x : ℕ) → nat_eq y x ≡ true → x ≡ y
one_name y x h = grind (arith, h)

pub kept_value : (x : ℕ) (a : Stmt) → is_assigned_in x a ≡ false → (n : ℕ) (s : Store) (T : Tapes) (c : Constant) → read s x ≡ constant c →
    exec n (Seq a (Print (Variable x))) s T ≡ exec n (Seq a (Print (Literal c))) s T
kept_value x a spared n s T c is =
    ap (λ p. play n p T)
    (kept (Variable x) s n a s (λ r. Sends Printer (read r x) (Give r)) (λ r. Sends Printer (constant c) (Give r))
    (λ y named. subst (λ z. is_assigned_in z a ≡ false) (one_name y x named) spared) (λ y named. refl)
    (λ r its. ap (λ v. Sends Printer v (Give r)) (its x (itself x) ∙ is)))
