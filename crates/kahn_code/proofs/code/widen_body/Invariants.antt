use Rattle.kahn_code.proofs.Common.{◌≡◌, max, drop, length, names_of, body_of, depth}
use Rattle.kahn_code.proofs.Widths.{rows_depth}
use Rattle.kahn_code.proofs.code.widen_body.Given as goal

abbrev pub invariant-loop-statement : goal.invariant-loop-statement
invariant-loop-statement g l =
    max (length l.parts.items) (rows_depth (names_of l.process) (drop l.statement-index l.statement-items)) ≡ max (length l.initial.parts.items) (depth (body_of (names_of l.process) l.process.statements.items))
