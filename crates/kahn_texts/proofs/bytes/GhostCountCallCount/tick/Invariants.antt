use Rattle.std.proofs.Common.{◌+◌}
use Rattle.kahn_texts.proofs.bytes.GhostCountCallCount.tick.Given as goal

abbrev pub ghost-one_more : goal.ghost-one_more
ghost-one_more a = a._count.now.calls.value + 1
