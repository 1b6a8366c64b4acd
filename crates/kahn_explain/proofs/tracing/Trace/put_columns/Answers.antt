use Rattle.std.proofs.lemmas.Result.{err_from_is_err_and}
use Rattle.kahn_explain.proofs.Pieces.{later_front, sent_more}
use Rattle.kahn_explain.proofs.tracing.Trace.put_columns.Goals as goal

pub returns-in_err-from : goal.returns-in_err-from
returns-in_err-from g c =
    let p = err_from_is_err_and c.from_residual.result c.from_residual.ensures.1 in
    rw p.1 (later_front _ _ _ c.loop-number.invariant c.in_err-from.ensures)

pub loop-number-preserved : goal.loop-number-preserved
loop-number-preserved g c = sent_more _ _ _ c.loop-number.invariant c.in_ok-from.ensures
