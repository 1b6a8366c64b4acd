use Rattle.kahn_warnings.proofs.Common.{arith, common_steps}
use Rattle.kahn_warnings.proofs.program.warning_notes.Goals as goal

pub returns : goal.returns
returns c = (
  c.in_ok-warnings.warnings.items,
  c.in_ok-warnings.ensures,
  grind (arith, common_steps, c.loop-warning.invariant, c.deref-warning-items.ensures.value),
)
