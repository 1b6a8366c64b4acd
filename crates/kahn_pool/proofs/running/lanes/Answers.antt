use Rattle.std.proofs.Common.{ap, sym, ◌∙◌}
use Rattle.kahn_pool.proofs.Handing.{few_given}
use Rattle.kahn_pool.proofs.running.lanes.Goals as goal

pub jobs_at-requires-clause-code : goal.jobs_at-requires-clause-code
jobs_at-requires-clause-code c = c.code.ensures ∙ c.stood.ensures.laid.code ∙ sym c.network.ensures

pub jobs_at-requires-clause-queues : goal.jobs_at-requires-clause-queues
jobs_at-requires-clause-queues c = (
  ap (λ q. q.network) c.queues.ensures ∙ c.stood.ensures.laid.network ∙ sym c.network.ensures,
  ap (λ q. q.input) c.queues.ensures ∙ c.stood.ensures.laid.input ∙ c.requires.input,
)

pub jobs_at-requires-clause-few : goal.jobs_at-requires-clause-few
jobs_at-requires-clause-few c =
    rw (c.network.ensures, c.queues.ensures) (few_given c.args.bench.now c.stood.ensures.laid c.stood.ensures.counted c.sized.ensures c.requires.few)

pub returns : goal.returns
returns c = rw (sym c.network.ensures, c.requires.input, sym c.queues.ensures) c.jobs_at.ensures
