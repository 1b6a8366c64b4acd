use Rattle.kahn_live.proofs.Common.{inr, map, err_from_is_err_and, bytes_in}
use Rattle.kahn_live.proofs.taking.LiveStage.take_row.Goals as goal

pub returns-in_err-take_cells-in-Ok-clause-met : goal.returns-in_err-take_cells-in-Ok-clause-met
returns-in_err-take_cells-in-Ok-clause-met g c =
    let p = err_from_is_err_and c.from_residual.result c.from_residual.ensures.1 in
    let torn = rw c.deref.ensures.value at c.in_err-take_cells-in-Ok.ensures.met in
    rw (p.1, p.2) (inr (map bytes_in c.in-Ok.cells.items, rw c.as_bytes.ensures.value at c.in-Ok.ensures, torn))

pub returns-in_ok-take_cells-in-Ok-clause-met : goal.returns-in_ok-take_cells-in-Ok-clause-met
returns-in_ok-take_cells-in-Ok-clause-met g c =
    (map bytes_in c.in-Ok.cells.items, rw c.as_bytes.ensures.value at c.in-Ok.ensures, rw c.deref.ensures.value at c.in_ok-take_cells-in-Ok.ensures.met)

pub returns-in_ok-tell_behind-in-Err-clause-met : goal.returns-in_ok-tell_behind-in-Err-clause-met
returns-in_ok-tell_behind-in-Err-clause-met g c =
    let told = rw c.deref-in-Err.ensures.value at c.in_ok-tell_behind-in-Err.ensures.told in
    (bytes_in c.in-Err.cell, rw c.as_bytes.ensures.value at c.in-Err.ensures, told.0, told.1)
