use Rattle.kahn_explanation.proofs.Common.{map, subst, sym, network_of, AreStandings, stands, AreReasons}
use Rattle.kahn_explanation.proofs.why.told.explained.Goals as goal

pub told-requires : goal.told-requires
told-requires c = subst (λ l. AreStandings (network_of c.args.network.now) (map stands l)) (sym c.deref.ensures.value) c.requires

pub returns : goal.returns
returns c = record {
  reasons = subst (λ l. AreReasons (network_of c.args.network.now) c.args.answer.now.verdict l c.in_ok-told.told.reasons.items) c.deref.ensures.value c.in_ok-told.ensures.reasons;
  told = c.in_ok-told.ensures.told;
  last = (_, c.in_ok-add_last.ensures);
}
