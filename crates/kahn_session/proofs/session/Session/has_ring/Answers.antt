use Rattle.kahn_session.proofs.Common.{◌∙◌, map, subst, ap, sym, Program, network_of, AreStandings, HasRing, stands, Live}
use Rattle.kahn_session.proofs.session.Session.has_ring.Goals as goal

pub has_ring-requires : goal.has_ring-requires
has_ring-requires c =
    subst (λ (t : Program). AreStandings (network_of t) (map stands c.ends.result.now)) (ap (λ (s : Live). s.flow.run.network) (sym c.self.view_is) ∙ c.self.invariant.0) c.ends.ensures.stood

pub returns : goal.returns
returns c =
    let (v, is) = c.requires.1 in
    let same = ap (λ (s : Live). s.flow.run.network) (sym c.self.view_is) ∙ c.self.invariant.0 in
    (v, is, (c.ends.result.now, c.ends.ensures.right v is, subst (λ (t : Program). HasRing (network_of t) (map stands c.ends.result.now) c.has_ring.result) (sym same) c.has_ring.ensures))
