use Rattle.std.proofs.Common.{rules}
use Rattle.kahn_sequential.proofs.Lists.{one_changed, all_changed}
use Rattle.kahn_sequential.proofs.taps.forget_all.Goals as goal

pub loop-instance-preserved : goal.loop-instance-preserved
loop-instance-preserved c = one_changed c.loop-instance.invariant (search rules) c.index_mut.ensures.value c.forget.ensures

pub returns : goal.returns
returns c = all_changed c.loop-instance.invariant (search rules)
