use Rattle.kahn_session.proofs.Common.{◌≡◌, Some, map, subst, sym, Verdict, inputs_of, network_of, AreStandings, stands, IsRightSoFar, Live}
use Rattle.kahn_streams.specs.Wiring.{IsWellWired}
use Rattle.kahn_chain.proofs.Standing_ends.{stand}
use Rattle.kahn_session.proofs.session.Session.ends.Goals as goal

pub returns-clause-stood : goal.returns-clause-stood
returns-clause-stood c =
    let h = c.self.inside.paced.flow.run in
    let (v, is) = subst (λ (s : Live). (v : Verdict) × (s.flow.run.verdict ≡ Some v)) (sym c.self.view_is) c.requires.1 in
    let wired : IsWellWired h.network = subst IsWellWired (sym c.self.invariant.0) c.program-program.ensures.wired in
    let ends = c.ends.result.now in
    subst (λ (s : Live). AreStandings (network_of s.flow.run.network) (map stands ends)) c.self.view_is
    (stand h.network wired (inputs_of h.input) h.bound v ends _ (c.ends.ensures v is).right)

pub returns-clause-right : goal.returns-clause-right
returns-clause-right c v is =
    subst (λ (s : Live). IsRightSoFar s.flow.run v c.ends.result.now) c.self.view_is
    (c.ends.ensures v (subst (λ (s : Live). s.flow.run.verdict ≡ Some v) (sym c.self.view_is) is))
