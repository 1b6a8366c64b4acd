use Rattle.kahn_session.proofs.Common.{◌≡◌, ◌∙◌, ℕ, List, Some, sym, ap, subst, Verdict as VerdictOf, closing_text, AppendsFront, IsLastText, Live}
use Rattle.kahn_session.proofs.session.Session.close.Goals as goal

pub returns-in-Err : goal.returns-in-Err
returns-in-Err g c =
    let i = c.self.inside in
    let h = i.paced.flow.run in
    let v = c.in-Some.verdict in
    let ends = c.ends-ends.result.now in
    let is : h.verdict ≡ Some v = ap (λ (s : Live). s.flow.run.verdict) c.self.view_is ∙ sym c.verdict.ensures ∙ c.in-Some.is in
    let text = closing_text i.network.now v ends c.events-events.result in
    let same = ap (λ t. closing_text t v ends c.events-events.result) (sym c.self.invariant.0) ∙ ap (λ n. closing_text h.network v ends n) c.events-events.ensures in
    subst
    (λ (s : Live). (x : VerdictOf) × (l : List ℕ) × IsLastText s.flow.run x l × AppendsFront (g.W.Write.contents c.args.writer.now) (g.W.Write.contents c.write_closing.new.writer) l)
    c.self.view_is
    (v, text, (is, (ends, c.ends-ends.ensures v is, same)), c.in-Err.ensures)
