use Rattle.std.proofs.lemmas.Result.{err_from_is_err_and}
use Rattle.kahn_explain.proofs.Pieces.{later_front, next_piece}
use Rattle.kahn_explain.proofs.tracing.Trace.put_row.Goals as goal

pub returns-in_err-from : goal.returns-in_err-from
returns-in_err-from g c =
    let p = err_from_is_err_and c.from_residual-in_err-from.result c.from_residual-in_err-from.ensures.1 in
    rw p.1 (later_front _ _ _ c.in_ok-put.ensures c.in_err-from.ensures)

pub returns : goal.returns
returns g c = next_piece _ _ _ c.put-2.result c.in_ok-put.ensures (next_piece _ _ _ c.put-2.result c.in_ok-from.ensures c.put-2.ensures)
