-- Believed. The meaning of expressions and statements, by cases on the syntax. `next` is what is done with the result.
use Rattle.std.specs.Prelude.{ℕ, zero, suc, true, false, not, neg_ℤ, List, Result, Ok, Err, slice_index_or, slice_set, pos}
use Rattle.kahn_streams.specs.{Types.Value, Types.Failure, declared.value.Value.TheVariants.Integer, declared.value.Value.TheVariants.Logical, Arithmetic.number, Arithmetic.truth, Arithmetic.ranged, Arithmetic.apply}
use Rattle.kahn_streams.specs.Syntax.{Constant, Number, Truth, Expr, Literal, Variable, Wait, Negate, Not, Binary, Conditional, Stmt, Skip, Assign, Send, Print, Seq, If, While, Repeat}
use Rattle.kahn_streams.specs.Script.{Parameter, Printer, Tapes, Script, Give, Fail, Waits, Sends, Turns, Rest, Reached, play}

-- the values of a process's names
abbrev pub Store : Type 0
Store = List Value

abbrev pub read : Store → ℕ → Value
read s x = slice_index_or s x (Integer (pos 0))

abbrev pub constant : Constant → Value
constant (Number z) = Integer z
constant (Truth b) = Logical b

-- goes on with a value, or faults
abbrev pub settle : {A : Type 0} → Result Value Failure → (Value → Script A) → Script A
settle (Ok v) next = next v
settle (Err k) next = Fail k

-- the value of an expression. Operands are evaluated from left to right, both of them.
abbrev pub value_of : {A : Type 0} → Expr → Store → (Value → Script A) → Script A
value_of (Literal c) s next = next (constant c)
value_of (Variable x) s next = next (read s x)
value_of (Wait q) s next = Waits q next
value_of (Negate e) s next = value_of e s (λ v. settle (ranged (neg_ℤ (number v))) next)
value_of (Not e) s next = value_of e s (λ v. next (Logical (not (truth v))))
value_of (Binary o a b) s next = value_of a s (λ v. value_of b s (λ w. settle (apply o v w) next))
value_of (Conditional t a b) s next =
    value_of t s (λ v. elim (truth v) [ true ↦ value_of a s next | false ↦ value_of b s next ])

-- a loop: the start of the turn, the test, and if it is true the body and the next turn
abbrev pub turns_of : {A : Type 0} → ℕ → (Store → (Value → Script A) → Script A) → (Store → (Store → Script A) → Script A) → Store → (Store → Script A) → Script A
turns_of zero test body s next = Turns Rest
turns_of (suc k) test body s next =
    Turns (test s (λ v. elim (truth v) [ true ↦ body s (λ s'. turns_of k test body s' next) | false ↦ next s ]))

-- what a statement does, with each loop unrolled to k turns
abbrev pub script_of : {A : Type 0} → ℕ → Stmt → Store → (Store → Script A) → Script A
script_of k Skip s next = next s
script_of k (Assign x e) s next = value_of e s (λ v. next (slice_set s x v))
script_of k (Send e q) s next = value_of e s (λ v. Sends (Parameter q) v (next s))
script_of k (Print e) s next = value_of e s (λ v. Sends Printer v (next s))
script_of k (Seq a b) s next = script_of k a s (λ s'. script_of k b s' next)
script_of k (If t a b) s next =
    value_of t s (λ v. elim (truth v) [ true ↦ script_of k a s next | false ↦ script_of k b s next ])
script_of k (While t b) s next = turns_of k (λ r go. value_of t r go) (λ r go. script_of k b r go) s next
script_of k (Repeat b) s next = turns_of k (λ r go. go (Logical true)) (λ r go. script_of k b r go) s next

-- with n events, from these values, on these tapes. A turn is an event, so n turns are enough.
abbrev pub eval : ℕ → Expr → Store → Tapes → Reached Value
eval n e s T = play n (value_of e s Give) T

abbrev pub exec : ℕ → Stmt → Store → Tapes → Reached Store
exec n b s T = play n (script_of n b s Give) T
