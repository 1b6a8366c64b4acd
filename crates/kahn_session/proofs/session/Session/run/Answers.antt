use Rattle.kahn_session.proofs.Common.{◌∙◌, true, refl, sym, subst, Program, AppendsFront, Appends, form_text, HasBroken, HasRunPart, Live, Pace}
use Rattle.kahn_session.proofs.Taking.{after_is, answered, live, went}
use Rattle.kahn_session.proofs.session.Session.run.Goals as goal

pub invariant_of-self : goal.invariant_of-self
invariant_of-self g c = (c.part-verdict.ensures.run.goes_on.network ∙ c.self.invariant.0, c.self.invariant.1)

pub returns-in-Err-clause-shown : goal.returns-in-Err-clause-shown
returns-in-Err-clause-shown g c =
    let i = c.self.inside in
    let o = i.paced in
    let q = c.part-verdict.new.self in
    let v = c.part-verdict.result in
    let n = c.part-verdict.ensures in
    let before = g.W.Write.contents c.args.writer.now in
    let after = g.W.Write.contents c.show.new.writer in
    let columns = i.columns.items in
    let same = after_is o q v n q refl refl in
    let text = subst (λ (t : Program). AppendsFront before after (form_text columns i.shown t q)) (sym (n.run.goes_on.network ∙ c.self.invariant.0)) (rw c.deref-2.ensures.value at c.in-Err.ensures) in
    subst (λ (s : Live). HasBroken s (live q true columns i.shown) before after) c.self.view_is
    (record {
      verdict = v;
      answered = answered o q v n columns i.broken i.shown c.ends-ends.result.now (c.ends-ends.ensures v n.settled) c.begun.ensures q refl refl true i.shown;
      text = subst (λ (a : Pace). AppendsFront before after (form_text columns i.shown q.flow.run.network a)) (sym same) text;
    })

pub returns-clause-shown : goal.returns-clause-shown
returns-clause-shown g c =
    let i = c.self.inside in
    let o = i.paced in
    let q = c.part-verdict.new.self in
    let v = c.part-verdict.result in
    let n = c.part-verdict.ensures in
    let before = g.W.Write.contents c.args.writer.now in
    let after = g.W.Write.contents c.show.new.writer in
    let columns = i.columns.items in
    let text = subst (λ (t : Program). Appends before after (form_text columns i.shown t q)) (sym (n.run.goes_on.network ∙ c.self.invariant.0)) (rw c.deref-2.ensures.value at c.in_default.ensures) in
    let count = c.row_count-count.result in
    subst (λ (s : Live). HasRunPart s (live c.let_go-shown.new.run i.broken columns c.let_go-shown.result) before after v) c.self.view_is
    (went o q v n columns i.broken i.shown c.ends-ends.result.now (c.ends-ends.ensures v n.settled) c.begun.ensures
    count (rw c.deref.ensures.value at c.row_count-count.ensures) c.let_go-shown.new.run c.let_go-shown.result (rw c.deref-3.ensures.value at c.let_go-shown.ensures.gone) before after text)
