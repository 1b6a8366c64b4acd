-- The statements of a block and of a body, one after another.
use Rattle.kahn_streams.proofs.Common.{◌≡◌, ◌||◌, Bool, false, List, ◌∷◌, refl, ap, Row_of-Statement, end_of-Statement, more_of-Statement, Statement, prints_in, Scope, statement_of, stmt_of, row_of, body_of, []}
use Rattle.kahn_streams.specs.declared.tree.Action.TheBlock.{items-the_row-Statement}

abbrev pub any_prints : Scope → List Statement → Bool
any_prints names [] = false
any_prints names (s ∷ rest) = prints_in (statement_of names s) || any_prints names rest

pub block_prints : {m : _} (names : Scope) (row : Row_of-Statement m) → prints_in (row_of names row) ≡ any_prints names (items-the_row-Statement m row)
block_prints names end_of-Statement = refl
block_prints names (more_of-Statement at a rest) = ap (λ b. prints_in (stmt_of names a) || b) (block_prints names rest)

pub body_prints : (names : Scope) (ss : List Statement) → prints_in (body_of names ss) ≡ any_prints names ss
body_prints names [] = refl
body_prints names (s ∷ rest) = ap (λ b. prints_in (statement_of names s) || b) (body_prints names rest)
