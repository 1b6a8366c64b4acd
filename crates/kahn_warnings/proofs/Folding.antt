-- The operands of a level and the statements of a block, one after another, with what the constants tell.
use Rattle.kahn_warnings.proofs.Common.{ConstantSite, Expr, List, Operand, Option, Row_of-Operand, Row_of-Statement, Scope, Statement, Value, [], action_sites, ap, combined, constant_of, end_of-Operand, end_of-Statement, expr_of, expression_of, flat_map, form_sites, items-the_row-Operand, items-the_row-Statement, level_of, level_sites, more_of-Operand, more_of-Statement, refl, row_sites, site_at, ◌++◌, ◌∷◌, ◌≡◌}
use Rattle.kahn_warnings.specs.declared.sites.SiteKind.TheVariants.{Binary}

abbrev pub level_constant : Scope → Option Value → List Operand → Option Value
level_constant names left [] = left
level_constant names left (o ∷ rest) = level_constant names (combined o.operator left (constant_of (expression_of names o.expression))) rest

pub level_folds : {m : _} (names : Scope) (first : Expr) (row : Row_of-Operand m) →
    constant_of (level_of names first row) ≡ level_constant names (constant_of first) (items-the_row-Operand m row)
level_folds names first end_of-Operand = refl
level_folds names first (more_of-Operand o at e rest) = level_folds names _ rest

abbrev pub operands_sites : Option Value → List Operand → List ConstantSite
operands_sites left [] = []
operands_sites left (o ∷ rest) =
    form_sites o.expression.form
    ++ (site_at (Binary o.operator left (constant_of (expression_of [] o.expression))) o.expression.span
    ∷ operands_sites (combined o.operator left (constant_of (expression_of [] o.expression))) rest)

pub level_sited : {m : _} (left : Option Value) (row : Row_of-Operand m) → level_sites left row ≡ operands_sites left (items-the_row-Operand m row)
level_sited left end_of-Operand = refl
level_sited left (more_of-Operand o at e rest) =
    let right = constant_of (expr_of [] e) in
    ap (λ sites. form_sites e ++ (site_at (Binary o left right) at ∷ sites)) (level_sited (combined o left right) rest)

abbrev pub sites_of : Statement → List ConstantSite
sites_of s = action_sites s.action

pub row_sited : {m : _} (row : Row_of-Statement m) → row_sites row ≡ flat_map sites_of (items-the_row-Statement m row)
row_sited end_of-Statement = refl
row_sited (more_of-Statement at a rest) = ap (λ sites. action_sites a ++ sites) (row_sited rest)
