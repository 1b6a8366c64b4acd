use Rattle.kahn_live.proofs.Common.{inr}
use Rattle.kahn_live.proofs.lines.tried_cell.Goals as goal

pub returns-in-Err : goal.returns-in-Err
returns-in-Err c = inr (c.in-Ok.ensures, rw c.deref.ensures.value at c.in-Err.ensures)
