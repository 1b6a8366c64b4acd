use Rattle.kahn_code.proofs.Common.{◌≡◌, ◌+◌, ◌<◌, max, drop, length, names_of, expression_of, need}
use Rattle.kahn_code.proofs.Widths.{operands_need}
use Rattle.kahn_code.proofs.code.+widen_expression.Given as goal

abbrev pub decreases-widen_expression : goal.decreases-widen_expression
decreases-widen_expression g l = goal.size-widen_expression g l

abbrev pub invariant-loop-operand : goal.invariant-loop-operand
invariant-loop-operand g l =
    (max (length l.parts.items) (l.free + operands_need (names_of l._process) (drop l.operand-index l.operand-items)) ≡ max (length l.fn.parts.items) (l.free + need (expression_of (names_of l._process) l.expression)))
    × (l.free < length l.parts.items)
