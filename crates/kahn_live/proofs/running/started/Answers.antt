use Rattle.kahn_live.proofs.Common.{inr, refl, err_from_is_err_and}
use Rattle.kahn_live.proofs.running.started.Goals as goal

pub returns-in_default : goal.returns-in_default
returns-in_default c = (c.in_ok-session.session, c.in_ok-session.ensures, rw c.in_default.is refl)

pub returns-in_err-columns : goal.returns-in_err-columns
returns-in_err-columns c =
    let p = err_from_is_err_and c.from_residual-in_err-columns.result c.from_residual-in_err-columns.ensures.1 in
    rw (p.1, p.2) (inr (c.in_ok-session.session, c.in_ok-session.ensures, rw c.in-Some.is c.in_err-columns.ensures))

pub returns : goal.returns
returns c = (c.in_ok-session.session, c.in_ok-session.ensures, rw c.in-Some.is (c.in_ok-columns.columns, c.in_ok-columns.ensures, c.show_columns.ensures))
