-- Believed. What is warned of constants: operators that fail wherever they are reached, and tests that come out one way.
use Rattle.std.specs.Result.{result_err, result_ok}
use Rattle.std.specs.Prelude.{◌≡◌, ℕ, Bool, true, false, ◌&&◌, pos, Option, Some, None, if◌then◌else◌}
use Rattle.kahn_streams.specs.{declared.tree.Operator.Operator, declared.value.Value.Value, declared.value.Failure.Failure, declared.tree.Operator.TheVariants.Divide, declared.tree.Operator.TheVariants.Remainder, declared.tree.Operator.TheVariants.Subtract, declared.tree.Operator.TheVariants.Unequal, declared.value.Failure.TheVariants.Overflow, declared.value.Failure.TheVariants.Division, Arithmetic.apply, Arithmetic.is_zero, Arithmetic.number, Arithmetic.truth, Meaning.Store, Meaning.constant, Meaning.eval, Meaning.exec, Meaning.value_of, Script.Fail, Script.Fault, Script.Give, Script.Got, Script.Tapes, Script.Turns, Script.at_once, Script.play}
use Rattle.kahn_streams.specs.Syntax as S
use Rattle.kahn_streams.specs.declared.value.Value.TheVariants as value
use Rattle.kahn_warnings.specs.{declared.sites.SiteKind.SiteKind, declared.program.WarningKind.WarningKind, declared.sites.SiteKind.TheVariants.Binary, declared.sites.SiteKind.TheVariants.Test, declared.sites.SiteKind.TheVariants.Turn, declared.program.WarningKind.TheVariants.Divides, declared.program.WarningKind.TheVariants.Overflows, declared.program.WarningKind.TheVariants.AlwaysTrue, declared.program.WarningKind.TheVariants.AlwaysFalse, declared.program.WarningKind.TheVariants.Unchanged, declared.program.WarningKind.TheVariants.BareDo}

-- ---- the value that an expression has wherever it is reached, where that is told

abbrev pub combined : Operator → Option Value → Option Value → Option Value
combined o (Some v) (Some w) = result_ok (apply o v w)
combined o v w = None

abbrev pub chosen : Option Value → Option Value → Option Value → Option Value
chosen None a b = None
chosen (Some v) a b = if truth v then a else b

-- a sign takes its operand from 0, and `not` tells it from true
abbrev pub from_0 : Option Value
from_0 = Some (value.Integer (pos 0))

abbrev pub truly : Option Value
truly = Some (value.Logical true)

abbrev pub constant_of : S.Expr → Option Value
constant_of (S.Literal c) = Some (constant c)
constant_of (S.Negate e) = combined Subtract from_0 (constant_of e)
constant_of (S.Not e) = combined Unequal (constant_of e) truly
constant_of (S.Binary o a b) = combined o (constant_of a) (constant_of b)
constant_of (S.Conditional t a b) = chosen (constant_of t) (constant_of a) (constant_of b)
constant_of e = None

-- it is known, and true
abbrev pub is_true : Option Value → Bool
is_true None = false
is_true (Some v) = truth v

-- ---- the fault that an operator has wherever its operands have their values

abbrev pub divides : Operator → Bool
divides Divide = true
divides Remainder = true
divides o = false

-- by the values of its operands, of which the left one needn't be known where it divides by 0
abbrev pub sure_fault : Operator → Option Value → Option Value → Option Failure
sure_fault o v None = None
sure_fault o None (Some w) = if divides o && is_zero (number w) then Some Division else None
sure_fault o (Some v) (Some w) = result_err (apply o v w)

abbrev pub fault_kind : Option Failure → Option WarningKind
fault_kind None = None
fault_kind (Some Overflow) = Some Overflows
fault_kind (Some Division) = Some Divides

-- what is warned of an operator or of a test: of a loop, whose test may vary by its body, which may be empty; one that is always true is
-- another way to write `repeat`
abbrev pub site_kind : SiteKind → Option WarningKind
site_kind (Binary o v w) = fault_kind (sure_fault o v w)
site_kind (Test None) = None
site_kind (Test (Some v)) = Some (if truth v then AlwaysTrue else AlwaysFalse)
site_kind (Turn None true empty) = None
site_kind (Turn None false empty) = Some (if empty then BareDo else Unchanged)
site_kind (Turn (Some v) varies empty) = if truth v then None else Some AlwaysFalse

-- ---- the law

-- Whatever the values of the names and whatever the tapes hold: an expression with such a value has it, with no event; a sign with such a
-- fault has it at once, and an operator once its left operand has its value; a test with such a value is that branch, or no turn.
pub record ConstantsHold : Type 0 where
  pub value : (e : S.Expr) (v : Value) → constant_of e ≡ Some v → (n : ℕ) (s : Store) (T : Tapes) → eval n e s T ≡ at_once (Got v) T
  pub sign : (e : S.Expr) (k : Failure) → sure_fault Subtract from_0 (constant_of e) ≡ Some k → (n : ℕ) (s : Store) (T : Tapes) → eval n (S.Negate e) s T ≡ at_once (Fault k) T
  pub operator : (o : Operator) (a b : S.Expr) (k : Failure) → sure_fault o (constant_of a) (constant_of b) ≡ Some k → (n : ℕ) (s : Store) (T : Tapes) →
      eval n (S.Binary o a b) s T ≡ play n (value_of {A = Value} a s (λ v. Fail k)) T
  pub branch : (t : S.Expr) (a b : S.Stmt) (v : Value) → constant_of t ≡ Some v → (n : ℕ) (s : Store) (T : Tapes) →
      exec n (S.If t a b) s T ≡ exec n (if truth v then a else b) s T
  pub turn : (t : S.Expr) (a : S.Stmt) (v : Value) → constant_of t ≡ Some v → truth v ≡ false → (n : ℕ) (s : Store) (T : Tapes) →
      exec n (S.While t a) s T ≡ play n (Turns (Give s)) T
