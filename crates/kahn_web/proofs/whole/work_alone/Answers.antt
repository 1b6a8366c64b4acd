use Rattle.kahn_web.proofs.Common.{refl, right_lines, alone}
use Rattle.kahn_fault.proofs.Worked.{unchecked, unanswered}
use Rattle.kahn_web.proofs.whole.work_alone.Goals as goal

pub returns-in-Err : goal.returns-in-Err
returns-in-Err g c = unchecked _ _ (alone c.args.bound) _ _ c.in-Err.ensures

pub returns-in-Err-answered : goal.returns-in-Err-answered
returns-in-Err-answered g c = unanswered _ _ (alone c.args.bound) _ c.in-Ok.network _ c.in-Ok.ensures c.in-Err-answered.ensures

pub write_report-requires : goal.write_report-requires
write_report-requires g c =
    let h = c.in-Ok-answered.ensures in
    right_lines c.in-Ok.network h.2.1.0 c.in-Ok-answered.answer h.2.1.2.named

pub returns-in-Ok-write_report : goal.returns-in-Ok-write_report
returns-in-Ok-write_report g c =
    let h = c.in-Ok-answered.ensures in
    (c.in-Ok.network, h.0, c.in-Ok-answered.answer, (c.in-Ok.ensures, h.1, h.2), refl, c.in-Ok-write_report.ensures)

pub returns : goal.returns
returns g c =
    let h = c.in-Ok-answered.ensures in
    (c.in-Ok.network, h.0, c.in-Ok-answered.answer, (c.in-Ok.ensures, h.1, h.2), c.in-Err-write_report.ensures)
