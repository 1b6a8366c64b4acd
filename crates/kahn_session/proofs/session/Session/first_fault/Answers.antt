use Rattle.kahn_session.proofs.Common.{◌≡◌, Some, sym, subst, Verdict, IsFirstFault, Live}
use Rattle.kahn_session.proofs.session.Session.first_fault.Goals as goal

pub returns : goal.returns
returns c =
    let (v, is) = subst (λ (s : Live). (v : Verdict) × (s.flow.run.verdict ≡ Some v)) (sym c.self.view_is) c.requires.1 in
    subst (λ (s : Live). IsFirstFault s.flow.run c.first_fault.result) c.self.view_is (v, is, (c.ends.result.now, c.ends.ensures v is, c.first_fault.ensures))
