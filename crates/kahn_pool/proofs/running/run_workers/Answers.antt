use Rattle.kahn_pool.proofs.Common.{◌∙◌}
use Rattle.kahn_pool.proofs.running.run_workers.Goals as goal

pub invariant_of-part : goal.invariant_of-part
invariant_of-part g c = record { fits = c.code.ensures ∙ c.in_ok-vacant.ensures.code }

pub run_part-stopped-requires-clause-part : goal.run_part-stopped-requires-clause-part
run_part-stopped-requires-clause-part g c κs within = record {
  crew = c.requires.crew.0;
  few = c.requires.crew.1;
  held = c.in_ok-vacant.ensures.held c.args.bound;
}
