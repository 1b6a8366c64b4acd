-- None of the operands so far varies.
use Rattle.kahn_warnings.proofs.Common.{contains, drop, list_any, varies_by, ◌≡◌}
use Rattle.kahn_warnings.proofs.Lists.{varies_with}
use Rattle.kahn_warnings.proofs.sites.+varies.Given as goal

abbrev pub invariant-loop-operand : goal.invariant-loop-operand
invariant-loop-operand l = list_any (varies_with (contains l.names)) (drop l.operand-index l.operand-items) ≡ varies_by (contains l.names) l.expression.form
