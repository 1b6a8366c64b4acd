-- Believed. Where in the body of a process a fault of arithmetic can come from.
use Rattle.std.specs.Prelude.{◌≡◌, ℕ, negsuc, Bool, true, false, neg_ℤ, List, [], ◌∷◌, Option, Some, None, Err, if◌then◌else◌, flat_map}
use Rattle.std.specs.{List.AllByRecursion, Result.result_err}
use Rattle.kahn_streams.specs.{declared.span.Span.Span, declared.tree.Operator.Operator, declared.tree.Statement.Statement, declared.value.Value.Value, declared.value.Failure.Failure, declared.tree.Operator.TheVariants.Add, declared.tree.Operator.TheVariants.Subtract, declared.tree.Operator.TheVariants.Multiply, declared.tree.Operator.TheVariants.Divide, declared.tree.Operator.TheVariants.Remainder, View.Scope, View.body_of, declared.value.Failure.TheVariants.Overflow, declared.value.Failure.TheVariants.Division, Arithmetic.apply, Arithmetic.fits_64, Arithmetic.number, Arithmetic.ranged, Network.Schema, Network.instance_at, Meaning.Store, Meaning.constant, Meaning.exec, Script.Fault, Script.Tapes, Solution.Faulted, Solution.HasEnd, Solution.Inputs, Solution.opening}
use Rattle.kahn_streams.specs.Syntax as S
use Rattle.kahn_streams.specs.declared.value.Value.TheVariants as value
use Rattle.kahn_warnings.specs.{Constants.divides, Constants.from_0, Sites.body_sites, declared.sites.ConstantSite.ConstantSite, declared.sites.SiteKind.SiteKind, declared.sites.SiteKind.TheVariants.Binary}

-- ---- which operators can have a fault

-- whatever the values of its operands are
abbrev pub can_fail : Failure → Operator → Bool
can_fail Overflow Add = true
can_fail Overflow Subtract = true
can_fail Overflow Multiply = true
can_fail Overflow Divide = true
can_fail Division Divide = true
can_fail Division Remainder = true
can_fail k o = false

abbrev pub is_failure : Failure → Option Failure → Bool
is_failure k None = false
is_failure Overflow (Some Overflow) = true
is_failure Division (Some Division) = true
is_failure k (Some j) = false

-- the least number, on which a division fails if it does by that divisor on any
abbrev pub least : Value
least = value.Integer (negsuc 9223372036854775807)

-- by the values of its operands, as far as the constants in them tell
abbrev pub operator_can : Failure → Operator → Option Value → Option Value → Bool
operator_can k o (Some v) (Some w) = is_failure k (result_err (apply o v w))
operator_can k o None (Some w) = if divides o then is_failure k (result_err (apply o least w)) else can_fail k o
operator_can k o v None = can_fail k o

abbrev pub site_can : Failure → SiteKind → Bool
site_can k (Binary o v w) = operator_can k o v w
site_can k s = false

-- ---- where they stand

abbrev pub place_where : Bool → Span → List Span
place_where true at = at ∷ []
place_where false at = []

abbrev pub site_places : Failure → ConstantSite → List Span
site_places k s = place_where (site_can k s.kind) s.span

-- the operands in a body by which this fault can come, in the order of the text
abbrev pub fault_places : Failure → List Statement → List Span
fault_places k ss = flat_map (site_places k) (body_sites ss)

-- ---- values of 64 bits, as all are in a run

abbrev pub IsOf64Bits : Value → Type 0
IsOf64Bits v = fits_64 (number v) ≡ true

abbrev pub IsWrittenIn64 : S.Expr → Type 0
IsWrittenIn64 (S.Literal c) = IsOf64Bits (constant c)
IsWrittenIn64 (S.Negate e) = IsWrittenIn64 e
IsWrittenIn64 (S.Not e) = IsWrittenIn64 e
IsWrittenIn64 (S.Binary o a b) = IsWrittenIn64 a × IsWrittenIn64 b
IsWrittenIn64 (S.Conditional t a b) = IsWrittenIn64 t × IsWrittenIn64 a × IsWrittenIn64 b
IsWrittenIn64 e = Unit {0}

abbrev pub AreWrittenIn64 : S.Stmt → Type 0
AreWrittenIn64 S.Skip = Unit {0}
AreWrittenIn64 (S.Assign x e) = IsWrittenIn64 e
AreWrittenIn64 (S.Send e q) = IsWrittenIn64 e
AreWrittenIn64 (S.Print e) = IsWrittenIn64 e
AreWrittenIn64 (S.Seq a b) = AreWrittenIn64 a × AreWrittenIn64 b
AreWrittenIn64 (S.If t a b) = IsWrittenIn64 t × AreWrittenIn64 a × AreWrittenIn64 b
AreWrittenIn64 (S.While t a) = IsWrittenIn64 t × AreWrittenIn64 a
AreWrittenIn64 (S.Repeat a) = AreWrittenIn64 a

-- the numbers in a body, the values of its names, and those on its tapes
pub record AreOf64Bits (b : S.Stmt) (s : Store) (T : Tapes) : Type 0 where
  pub written : AreWrittenIn64 b
  pub stored : AllByRecursion IsOf64Bits s
  pub taken : (q : ℕ) → AllByRecursion IsOf64Bits (T q)

-- those in the bodies of a network, those that its instances begin with, and those of its input
pub record AreNumbersOf64 (N : Schema) (I : Inputs) : Type 0 where
  pub written : (p : ℕ) → AreWrittenIn64 (instance_at N p).body
  pub opened : (p : ℕ) → AllByRecursion IsOf64Bits (opening (instance_at N p))
  pub given : (c : ℕ) → AllByRecursion IsOf64Bits (I c)

-- ---- the law

-- a value that an operand can have of which the constants tell this
abbrev pub IsOperand : Option Value → Value → Type 0
IsOperand None v = IsOf64Bits v
IsOperand (Some u) v = IsOf64Bits v × (v ≡ u)

-- An operator or a sign that isn't told has no such fault, whatever its operands are. One that is told on operands of which nothing is
-- known, or by its divisor, has it on some. And a body without such a place never ends with that fault,
-- so an instance that has it in the solution has a place.
pub record FaultsLie : Type 0 where
  pub operator : (k : Failure) (o : Operator) (l r : Option Value) → operator_can k o l r ≡ false →
      (v w : Value) → IsOperand l v → IsOperand r w → apply o v w ≡ Err k → ⊥
  pub sign : (k : Failure) (o : Option Value) → operator_can k Subtract from_0 o ≡ false → (v : Value) → IsOperand o v → ranged (neg_ℤ (number v)) ≡ Err k → ⊥
  pub some : (k : Failure) (o : Operator) → operator_can k o None None ≡ true →
      (v : Value) × (w : Value) × IsOf64Bits v × IsOf64Bits w × (apply o v w ≡ Err k)
  pub divisor : (k : Failure) (o : Operator) (w : Value) → divides o ≡ true → operator_can k o None (Some w) ≡ true →
      (v : Value) × IsOf64Bits v × (apply o v w ≡ Err k)
  pub nowhere : (k : Failure) (names : Scope) (ss : List Statement) → fault_places k ss ≡ [] →
      (n : ℕ) (s : Store) (T : Tapes) → AreOf64Bits (body_of names ss) s T → (exec n (body_of names ss) s T).outcome ≡ Fault k → ⊥
  pub placed : (N : Schema) (I : Inputs) → AreNumbersOf64 N I → (p e : ℕ) (k : Failure) → HasEnd N I p (Faulted k) e →
      (names : Scope) (ss : List Statement) → (instance_at N p).body ≡ body_of names ss → fault_places k ss ≡ [] → ⊥
