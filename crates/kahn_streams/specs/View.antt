-- Believed. The abstract syntax that a source tree stands for: names become numbers, the operators of one level
-- become nested pairs from the left, and a missing `else` does nothing.
use Rattle.std.specs.Prelude.{ℕ, suc, List, [], ◌∷◌, ◌++◌, map, string_bytes, if◌then◌else◌}
use Rattle.std.proofs.Common.{bytes_eq}
use Rattle.kahn_streams.specs.Types.{Name, Form, Number, Logical, Variable, Wait, Negate', Not', Bracket', Level', Conditional', Row_of-Operand, end_of-Operand, more_of-Operand, Expression, Action, Empty, Assign, Send, Print, Block', If', While', Repeat', Row_of-Statement, end_of-Statement, more_of-Statement, Held-Action-If-2, None', Some', Statement, Process}
use Rattle.kahn_streams.specs.Syntax as S

-- the names of a process, its parameters first and then its variables; a name that isn't there has the number past the last
abbrev pub Scope : Type 0
Scope = List (List ℕ)

abbrev pub place_of : Scope → List ℕ → ℕ
place_of [] x = 0
place_of (y ∷ ys) x = if bytes_eq x y then 0 else suc (place_of ys x)

abbrev pub number_of : Scope → Name → ℕ
number_of names n = place_of names (string_bytes n.text)

abbrev mutual
  pub expr_of : Scope → Form → S.Expr
  expr_of names (Number z) = S.Literal (S.Number z)
  expr_of names (Logical b) = S.Literal (S.Truth b)
  expr_of names (Variable x) = S.Variable (number_of names x)
  expr_of names (Wait q) = S.Wait (number_of names q)
  expr_of names (Negate' p at e) = S.Negate (expr_of names e)
  expr_of names (Not' p at e) = S.Not (expr_of names e)
  expr_of names (Bracket' p at e) = expr_of names e
  expr_of names (Level' p at e shape rest) = level_of names (expr_of names e) rest
  expr_of names (Conditional' p at t q at' a r at'' b) = S.Conditional (expr_of names t) (expr_of names a) (expr_of names b)

  pub level_of : {m : _} → Scope → S.Expr → Row_of-Operand m → S.Expr
  level_of names first end_of-Operand = first
  level_of names first (more_of-Operand o at e rest) = level_of names (S.Binary o first (expr_of names e)) rest

abbrev pub expression_of : Scope → Expression → S.Expr
expression_of names e = expr_of names e.form

abbrev mutual
  pub stmt_of : Scope → Action → S.Stmt
  stmt_of names Empty = S.Skip
  stmt_of names (Assign x e) = S.Assign (number_of names x) (expression_of names e)
  stmt_of names (Send e q) = S.Send (expression_of names e) (number_of names q)
  stmt_of names (Print e) = S.Print (expression_of names e)
  stmt_of names (Block' shape row) = row_of names row
  stmt_of names (If' t p at a b) = S.If (expression_of names t) (stmt_of names a) (else_of names b)
  stmt_of names (While' t p at a) = S.While (expression_of names t) (stmt_of names a)
  stmt_of names (Repeat' p at a) = S.Repeat (stmt_of names a)

  pub row_of : {m : _} → Scope → Row_of-Statement m → S.Stmt
  row_of names end_of-Statement = S.Skip
  row_of names (more_of-Statement at a rest) = S.Seq (stmt_of names a) (row_of names rest)

  pub else_of : Scope → Held-Action-If-2 → S.Stmt
  else_of names None' = S.Skip
  else_of names (Some' p at a) = stmt_of names a

abbrev pub statement_of : Scope → Statement → S.Stmt
statement_of names s = stmt_of names s.action

abbrev pub body_of : Scope → List Statement → S.Stmt
body_of names [] = S.Skip
body_of names (s ∷ rest) = S.Seq (statement_of names s) (body_of names rest)

abbrev pub bytes_of : Name → List ℕ
bytes_of n = string_bytes n.text

-- the names of a process, by their numbers
abbrev pub names_of : Process → Scope
names_of p = map (λ q. bytes_of q.name) p.parameters.items ++ map (λ v. bytes_of v.name) p.variables.items
