use Rattle.kahn_code.proofs.Common.{IsFirst}
use Rattle.kahn_code.proofs.Lists.{AreFirst}
use Rattle.kahn_code.proofs.queue.first_queues.Given as goal

abbrev pub invariant-loop-channel : goal.invariant-loop-channel
invariant-loop-channel g l = AreFirst (IsFirst l.network l.input) l.queues.items l.channel
