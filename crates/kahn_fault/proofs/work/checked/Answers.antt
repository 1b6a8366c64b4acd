use Rattle.kahn_fault.proofs.Common.{sym, subst, IsChecked}
use Rattle.kahn_fault.proofs.work.checked.Goals as goal

pub returns-in-Err-check : goal.returns-in-Err-check
returns-in-Err-check c = (c.in-Ok.tree, (c.in-Ok.ensures.spells, c.in-Ok.ensures.nesting), c.in-Err-check.ensures)

pub returns-in-Ok-check : goal.returns-in-Ok-check
returns-in-Ok-check c =
    subst (IsChecked c.args.program.now) (sym c.in-Ok-check.ensures.0) ((c.in-Ok.ensures.spells, c.in-Ok.ensures.nesting), c.in-Ok-check.ensures.1)
