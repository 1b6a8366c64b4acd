use Rattle.std.proofs.lemmas.Result.{err_from_is_err_and}
use Rattle.kahn_explain.proofs.Pieces.{later_front, next_piece, sent_more}
use Rattle.kahn_explain.proofs.tracing.Trace.put.Goals as goal

pub returns-in_err-put_row : goal.returns-in_err-put_row
returns-in_err-put_row g c =
    let p = err_from_is_err_and c.from_residual-in_err-put_row.result c.from_residual-in_err-put_row.ensures.1 in
    rw p.1 (later_front _ _ _ c.in_ok-put.ensures (later_front _ _ _ c.loop-place.invariant c.in_err-put_row.ensures))

pub loop-place-preserved : goal.loop-place-preserved
loop-place-preserved g c = sent_more _ _ _ c.loop-place.invariant c.in_ok-put_row.ensures

pub returns : goal.returns
returns g c =
    next_piece _ _ _ c.flush_all.result c.in_ok-put.ensures (next_piece _ _ _ c.flush_all.result c.loop-place.invariant c.flush_all.ensures)
