use Rattle.kahn_needs.proofs.Common.{◌∙◌}
use Rattle.kahn_needs.proofs.Telling.{are_counts, are_needs}
use Rattle.kahn_needs.proofs.needs.told.Goals as goal

pub returns-clause-found : goal.returns-clause-found
returns-clause-found c = (
  are_needs c.args.bench.now c.laid.ensures c.in_ok-values.values.items c.in_ok-events.events.items (c.in_ok-values.ensures ∙ c.taken.ensures) (c.in_ok-events.ensures ∙ c.done.ensures) c.args.line c.args.place c.value-value.result
      c.requires.come (c.value-value.ensures c.requires.come) c.requires.forced,
  are_counts c.args.bench.now c.laid.ensures c.in_ok-values.values.items c.in_ok-events.events.items (c.in_ok-values.ensures ∙ c.taken.ensures) (c.in_ok-events.ensures ∙ c.done.ensures),
)

pub returns-clause-needs : goal.returns-clause-needs
returns-clause-needs c = c.in_ok-events.ensures ∙ c.done.ensures
