use Rattle.kahn_report.proofs.Common.{refl, rules, HasItsLines}
use Rattle.kahn_sequential.proofs.Sizes.{settles}
use Rattle.kahn_texts.proofs.Answer_lines.{right_lines}
use Rattle.kahn_fault.proofs.Worked.{unchecked, unanswered}
use Rattle.kahn_report.proofs.working.work.Goals as goal

pub returns-in-Err-clause-told : goal.returns-in-Err-clause-told
returns-in-Err-clause-told g c = unchecked _ _ _ _ _ c.in-Err.ensures

pub returns-in-Err-answered-clause-told : goal.returns-in-Err-answered-clause-told
returns-in-Err-answered-clause-told g c = unanswered _ _ _ _ c.in-Ok.network _ c.in-Ok.ensures c.in-Err-answered.ensures

pub write_for-requires : goal.write_for-requires
write_for-requires g c =
    let h = c.in-Ok-answered.ensures in
    let lines : HasItsLines c.in-Ok.network c.in-Ok-answered.answer = right_lines c.in-Ok.network h.2.1.0 c.in-Ok-answered.answer h.2.1.2.named in
    search (rules, lines)

pub returns-in-Ok-write_for-clause-told : goal.returns-in-Ok-write_for-clause-told
returns-in-Ok-write_for-clause-told g c =
    let h = c.in-Ok-answered.ensures in
    (c.in-Ok.network, h.0, c.in-Ok-answered.answer, (c.in-Ok.ensures, h.1, h.2), refl, c.in-Ok-write_for.ensures)

pub returns-in-Ok-write_for-clause-exact : goal.returns-in-Ok-write_for-clause-exact
returns-in-Ok-write_for-clause-exact g c =
    let h = c.in-Ok-answered.ensures in
    (c.in-Ok.network, h.0, c.in-Ok.ensures, h.1, settles _ _ _ h.2.1.0 c.in-Ok-answered.answer h.2.1.2)

pub returns-clause-told : goal.returns-clause-told
returns-clause-told g c =
    let h = c.in-Ok-answered.ensures in
    (c.in-Ok.network, h.0, c.in-Ok-answered.answer, (c.in-Ok.ensures, h.1, h.2), c.in-Err-write_for.ensures)
