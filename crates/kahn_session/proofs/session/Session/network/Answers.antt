use Rattle.std.proofs.Common.{◌∙◌, ap, sym}
use Rattle.kahn_session.proofs.session.Session.network.Goals as goal

pub returns : goal.returns
returns c = sym c.self.invariant.0 ∙ ap (λ s. s.flow.run.network) c.self.view_is
