use Rattle.kahn_session.proofs.Common.{◌≡◌, ◌∙◌, ◌&&◌, not, None, Some, Bool, true, false, true≢false, ap, sym, subst, list_any, network_of, HasVerdict, IsDeaf, IsDeafNow, Live, is_finished, waits_on_input}
use Rattle.kahn_session.proofs.session.Session.is_deaf.Goals as goal

deaf_now : (s : Live) (b : Bool) → HasVerdict s → IsDeaf s.flow.run b → IsDeafNow s b
deaf_now s true has deaf = (has, deaf)
deaf_now s false has deaf = λ h. deaf

pub returns-then-self : goal.returns-then-self
returns-then-self c = λ h. absurd (true≢false (sym c.if-self.true ∙ ap (λ (s : Live). s.broken) c.self.view_is ∙ h.0))

pub returns-in_default : goal.returns-in_default
returns-in_default c = λ h.
    let none : None ≡ Some h.1.0 = sym c.in_default.is ∙ c.verdict.ensures ∙ h.1.1 in
    absurd cc

pub returns : goal.returns
returns c =
    let h = c.self.inside.paced.flow.run in
    let v = c.in-Some.verdict in
    let ends = c.ends.result.now in
    let is : h.verdict ≡ Some v = ap (λ (s : Live). s.flow.run.verdict) c.self.view_is ∙ sym c.verdict.ensures ∙ c.in-Some.is in
    let over = c.is_over.ensures ∙ ap (λ t. is_finished v && not (list_any (waits_on_input (network_of t)) ends)) (sym c.self.invariant.0) in
    deaf_now c.args.self.now c.is_over.result (subst (λ (s : Live). HasVerdict s) c.self.view_is (c.if-self.false, (v, is)))
    (subst (λ (s : Live). IsDeaf s.flow.run c.is_over.result) c.self.view_is (v, is, (ends, c.ends.ensures v is, over)))
