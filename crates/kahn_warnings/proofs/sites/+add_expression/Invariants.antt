-- The places in the operands that are left come behind those so far; and the value of the operands so far.
use Rattle.kahn_warnings.proofs.Common.{Scope, constant_of, drop, expression_of, form_sites, ◌++◌, ◌≡◌}
use Rattle.kahn_warnings.proofs.Folding.{level_constant, operands_sites}
use Rattle.kahn_warnings.proofs.sites.+add_expression.Given as goal

abbrev pub invariant-loop-operand : goal.invariant-loop-operand
invariant-loop-operand l = record {
  sites : l.sites.items ++ operands_sites l.left (drop l.operand-index l.operand-items) ≡ l.fn.sites.items ++ form_sites l.fn.expression.form;
  value : (names : Scope) → level_constant names l.left (drop l.operand-index l.operand-items) ≡ constant_of (expression_of names l.fn.expression);
}
