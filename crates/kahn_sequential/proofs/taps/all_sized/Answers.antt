use Rattle.kahn_sequential.proofs.Common.{arith, AreCounts, Tapped, slice_get_within}
use Rattle.kahn_sequential.proofs.Lists.{each_more}
use Rattle.kahn_sequential.proofs.taps.all_sized.Goals as goal

pub loop-instance-preserved : goal.loop-instance-preserved
loop-instance-preserved c =
    each_more (λ (x : Tapped). AreCounts x.told) c.args.taps.now c.loop-instance.instance c.index-taps-instance.result c.loop-instance.invariant c.index-taps-instance.is c.sized.ensures

pub returns : goal.returns
returns c p x at =
    c.loop-instance.invariant p (omega (arith, slice_get_within c.args.taps.now p x at, c.loop-instance.auto.instance-end, c.loop-instance-test.false)) x at
