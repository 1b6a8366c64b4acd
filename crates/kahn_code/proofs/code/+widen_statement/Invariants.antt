use Rattle.kahn_code.proofs.Common.{◌≡◌, max, drop, length, names_of, statement_of, depth}
use Rattle.kahn_code.proofs.Widths.{rows_depth}
use Rattle.kahn_code.proofs.code.+widen_statement.Given as goal

abbrev pub invariant-loop-inner : goal.invariant-loop-inner
invariant-loop-inner g l =
    max (length l.parts.items) (rows_depth (names_of l._process) (drop l.inner-index l.inner-items)) ≡ max (length l.fn.parts.items) (depth (statement_of (names_of l._process) l.statement))
