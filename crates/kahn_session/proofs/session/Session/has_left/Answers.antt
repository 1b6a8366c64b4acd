use Rattle.kahn_session.proofs.Common.{◌≡◌, subst, Live, has_left}
use Rattle.kahn_session.proofs.session.Session.has_left.Goals as goal

pub returns : goal.returns
returns c = subst (λ (s : Live). c.is_uneven.result ≡ has_left s) c.self.view_is (rw c.deref.ensures.value at c.is_uneven.ensures)
