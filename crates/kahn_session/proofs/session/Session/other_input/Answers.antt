use Rattle.kahn_session.proofs.Common.{◌∙◌, Some, ap, sym, subst, option_copied, IsOtherInput}
use Rattle.kahn_session.proofs.session.Session.other_input.Goals as goal

pub returns : goal.returns
returns c =
    subst (λ t. IsOtherInput t (Some c.args.name.now) (option_copied c.other_input.result)) (sym c.self.invariant.0 ∙ ap (λ s. s.flow.run.network) c.self.view_is) c.other_input.ensures
