-- Believed. Which names the body of a process uses, and which it assigns.
use Rattle.std.specs.Prelude.{ℕ, Bool, true, false, ◌||◌, ◌&&◌, List, [], ◌∷◌, nat_eq}
use Rattle.kahn_streams.specs.{declared.tree.Process.Process, declared.tree.Action.Action, declared.tree.Action.Empty, View.body_of, View.bytes_of, View.stmt_of}
use Rattle.kahn_streams.specs.declared.tree.Form.{Form, Negate', Not', Bracket', Level', Conditional', Row_of-Operand, end_of-Operand, more_of-Operand}
use Rattle.kahn_streams.specs.declared.tree.Form as form
use Rattle.kahn_streams.specs.Syntax.{Expr, Literal, Variable, Wait, Negate, Not, Binary, Conditional, Stmt, Skip, Assign, Send, Print, Seq, If, While, Repeat}

-- an expression waits, reached or not
abbrev pub waits_in : Expr → Bool
waits_in (Wait q) = true
waits_in (Negate e) = waits_in e
waits_in (Not e) = waits_in e
waits_in (Binary o a b) = waits_in a || waits_in b
waits_in (Conditional t a b) = waits_in t || waits_in a || waits_in b
waits_in e = false

-- the name of number x stands in an expression, as a value or as a channel
abbrev pub is_named : ℕ → Expr → Bool
is_named x (Literal c) = false
is_named x (Variable y) = nat_eq x y
is_named x (Wait q) = nat_eq x q
is_named x (Negate e) = is_named x e
is_named x (Not e) = is_named x e
is_named x (Binary o a b) = is_named x a || is_named x b
is_named x (Conditional t a b) = is_named x t || is_named x a || is_named x b

-- a statement takes its value, waits on it or sends on it, or takes a value off a channel into it: that is how one is thrown away
abbrev pub is_used_in : ℕ → Stmt → Bool
is_used_in x Skip = false
is_used_in x (Assign y e) = is_named x e || (nat_eq x y && waits_in e)
is_used_in x (Send e q) = is_named x e || nat_eq x q
is_used_in x (Print e) = is_named x e
is_used_in x (Seq a b) = is_used_in x a || is_used_in x b
is_used_in x (If t a b) = is_named x t || is_used_in x a || is_used_in x b
is_used_in x (While t a) = is_named x t || is_used_in x a
is_used_in x (Repeat a) = is_used_in x a

-- it gives it a value
abbrev pub is_assigned_in : ℕ → Stmt → Bool
is_assigned_in x (Assign y e) = nat_eq x y
is_assigned_in x (Seq a b) = is_assigned_in x a || is_assigned_in x b
is_assigned_in x (If t a b) = is_assigned_in x a || is_assigned_in x b
is_assigned_in x (While t a) = is_assigned_in x a
is_assigned_in x (Repeat a) = is_assigned_in x a
is_assigned_in x a = false

-- nothing stands there
abbrev pub is_empty : Action → Bool
is_empty Empty = true
is_empty a = false

-- an expression waits, or has a name of these
abbrev mutual
  pub varies_by : (List ℕ → Bool) → Form → Bool
  varies_by these (form.Variable x) = these (bytes_of x)
  varies_by these (form.Wait q) = true
  varies_by these (Negate' p at e) = varies_by these e
  varies_by these (Not' p at e) = varies_by these e
  varies_by these (Bracket' p at e) = varies_by these e
  varies_by these (Level' p at e shape row) = varies_by these e || any_varies_by these row
  varies_by these (Conditional' p at t q at' e r at'' f) = varies_by these t || varies_by these e || varies_by these f
  varies_by these f = false

  pub any_varies_by : {m : _} → (List ℕ → Bool) → Row_of-Operand m → Bool
  any_varies_by these end_of-Operand = false
  any_varies_by these (more_of-Operand o at e rest) = varies_by these e || any_varies_by these rest

-- an action gives a value to a name: in sight of this one alone its number is 0, and no other name has that
abbrev pub assigned_by : Action → List ℕ → Bool
assigned_by a name = is_assigned_in 0 (stmt_of (name ∷ []) a)

-- the body of a process does so, or uses it
abbrev pub uses_name : Process → List ℕ → Bool
uses_name p name = is_used_in 0 (body_of (name ∷ []) p.statements.items)

abbrev pub assigns : Process → List ℕ → Bool
assigns p name = is_assigned_in 0 (body_of (name ∷ []) p.statements.items)
