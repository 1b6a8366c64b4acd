use Rattle.kahn_needs.proofs.Tallied.{tally_first}
use Rattle.kahn_needs.proofs.tally.Tally.new.Goals as goal

pub invariant_of-result : goal.invariant_of-result
invariant_of-result c =
    tally_first c.args.network.now c.args.input.now c.in_ok-queues.queues c.channels.result c.in_ok-taken.taken.items c.counted.ensures
    c.in_ok-queues.ensures.names c.in_ok-queues.ensures.first c.channels.ensures c.in_ok-taken.ensures
