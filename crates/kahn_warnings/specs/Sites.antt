-- Believed. The operators and the tests in the body of a process, with what the constants tell of their operands.
use Rattle.std.specs.Prelude.{List, [], ◌∷◌, ◌++◌, Option, flat_map}
use Rattle.kahn_streams.specs.{declared.span.Span.Span, declared.tree.Operator.TheVariants.Subtract, declared.tree.Statement.Statement, declared.value.Value.Value, View.expr_of, View.expression_of}
use Rattle.kahn_streams.specs.declared.tree.Form.{Form, Negate', Not', Bracket', Level', Conditional', Row_of-Operand, end_of-Operand, more_of-Operand}
use Rattle.kahn_streams.specs.declared.tree.Action.{Action, Empty, Assign, Send, Print, Block', If', While', Repeat', Row_of-Statement, end_of-Statement, more_of-Statement, Held-Action-If-2, None', Some'}
use Rattle.kahn_warnings.specs.{Constants.combined, Constants.constant_of, Constants.from_0, Uses.assigned_by, Uses.is_empty, Uses.varies_by, declared.sites.ConstantSite.ConstantSite, declared.sites.SiteKind.SiteKind, declared.sites.SiteKind.TheVariants.Binary, declared.sites.SiteKind.TheVariants.Test, declared.sites.SiteKind.TheVariants.Turn}

abbrev pub site_at : SiteKind → Span → ConstantSite
site_at k at = record { kind = k; span = at }

-- in an expression: of an operator its right operand is told, of a sign its only one
abbrev mutual
  pub form_sites : Form → List ConstantSite
  form_sites (Negate' p at e) = form_sites e ++ site_at (Binary Subtract from_0 (constant_of (expr_of [] e))) at ∷ []
  form_sites (Not' p at e) = form_sites e
  form_sites (Bracket' p at e) = form_sites e
  form_sites (Level' p at e shape rest) = form_sites e ++ level_sites (constant_of (expr_of [] e)) rest
  form_sites (Conditional' p at t q at' a r at'' b) = form_sites t ++ (site_at (Test (constant_of (expr_of [] t))) at ∷ (form_sites a ++ form_sites b))
  form_sites f = []

  -- behind operands with this value
  pub level_sites : {m : _} → Option Value → Row_of-Operand m → List ConstantSite
  level_sites left end_of-Operand = []
  level_sites left (more_of-Operand o at e rest) =
      form_sites e ++ (site_at (Binary o left (constant_of (expr_of [] e))) at ∷ level_sites (combined o left (constant_of (expr_of [] e))) rest)

-- in a statement
abbrev mutual
  pub action_sites : Action → List ConstantSite
  action_sites Empty = []
  action_sites (Assign x e) = form_sites e.form
  action_sites (Send e q) = form_sites e.form
  action_sites (Print e) = form_sites e.form
  action_sites (Block' shape row) = row_sites row
  action_sites (If' t p at a b) = form_sites t.form ++ (site_at (Test (constant_of (expression_of [] t))) t.span ∷ (action_sites a ++ else_sites b))
  action_sites (While' t p at a) =
      form_sites t.form ++ (site_at (Turn (constant_of (expression_of [] t)) (varies_by (assigned_by a) t.form) (is_empty a)) t.span ∷ action_sites a)
  action_sites (Repeat' p at a) = action_sites a

  pub row_sites : {m : _} → Row_of-Statement m → List ConstantSite
  row_sites end_of-Statement = []
  row_sites (more_of-Statement at a rest) = action_sites a ++ row_sites rest

  pub else_sites : Held-Action-If-2 → List ConstantSite
  else_sites None' = []
  else_sites (Some' p at a) = action_sites a

-- in a body
abbrev pub body_sites : List Statement → List ConstantSite
body_sites ss = flat_map (λ s. action_sites s.action) ss
