use Rattle.std.proofs.lemmas.Result.{err_from_is_err_and}
use Rattle.kahn_explain.proofs.Pieces.{later_front, sent_more}
use Rattle.kahn_explain.proofs.rows.put_needs.Goals as goal

pub returns-in_err-found-clause-put : goal.returns-in_err-found-clause-put
returns-in_err-found-clause-put g c =
    let p = err_from_is_err_and c.from_residual.result c.from_residual.ensures.1 in
    rw p.1 (later_front _ _ _ c.in_default.ensures c.in_err-found.ensures.put)

pub returns-in-Ok-clause-put : goal.returns-in-Ok-clause-put
returns-in-Ok-clause-put g c = sent_more _ _ _ c.in_default.ensures (sent_more _ _ _ c.in_ok-found.ensures.put c.in-Ok.ensures)

pub returns-in-Err-flush_all-clause-put : goal.returns-in-Err-flush_all-clause-put
returns-in-Err-flush_all-clause-put g c =
    later_front _ _ _ c.in_default.ensures (later_front _ _ _ c.in_ok-found.ensures.put c.in-Err-flush_all.ensures)
