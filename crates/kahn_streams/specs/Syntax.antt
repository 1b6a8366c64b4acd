-- Believed. Abstract syntax: a process body with its names resolved to numbers. The names of a process are numbered
-- from 0, its parameters first and then its variables, in order of declaration.
use Rattle.std.specs.Prelude.{ℕ, ℤ, Bool, true, false, ◌||◌}
use Rattle.kahn_streams.specs.Types.{Operator}

pub data Constant : Type 0 where
  Number : ℤ → Constant
  Truth : Bool → Constant

pub data Expr : Type 0 where
  Literal : Constant → Expr
  Variable : ℕ → Expr
  Wait : ℕ → Expr
  Negate : Expr → Expr
  Not : Expr → Expr
  Binary : Operator → Expr → Expr → Expr
  Conditional : Expr → Expr → Expr → Expr

pub data Stmt : Type 0 where
  Skip : Stmt
  Assign : ℕ → Expr → Stmt
  Send : Expr → ℕ → Stmt
  Print : Expr → Stmt
  Seq : Stmt → Stmt → Stmt
  If : Expr → Stmt → Stmt → Stmt
  While : Expr → Stmt → Stmt
  Repeat : Stmt → Stmt

-- whether a statement prints, reached or not
abbrev pub prints_in : Stmt → Bool
prints_in Skip = false
prints_in (Assign x e) = false
prints_in (Send e q) = false
prints_in (Print e) = true
prints_in (Seq a b) = prints_in a || prints_in b
prints_in (If t a b) = prints_in a || prints_in b
prints_in (While t b) = prints_in b
prints_in (Repeat b) = prints_in b
