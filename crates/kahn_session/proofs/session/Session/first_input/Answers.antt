use Rattle.kahn_session.proofs.Common.{◌∙◌, ap, sym, subst, option_copied, IsFirstInput}
use Rattle.kahn_session.proofs.session.Session.first_input.Goals as goal

pub returns : goal.returns
returns c =
    subst (λ t. IsFirstInput t (option_copied c.self.inside.input)) (sym c.self.invariant.0 ∙ ap (λ s. s.flow.run.network) c.self.view_is) c.self.invariant.1
