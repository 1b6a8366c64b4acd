use Rattle.kahn_sequential.proofs.Common.{arith, ◌<◌, length, slice_index_or, slice_get-get_or, slice_get_within}
use Rattle.kahn_sequential.proofs.Numbered.{each_least}
use Rattle.kahn_sequential.proofs.taps.least_of.Goals as goal

pub loop-instance-preserved : goal.loop-instance-preserved
loop-instance-preserved c =
    let h = c.least_in-least.ensures in
    let instances = c.args.instances.now in
    let i = c.loop-instance.instance-index in
    let below : i < length instances = omega (arith, c.loop-instance-test.true, c.loop-instance.auto.instance-index-end) in
    record {
      from = h.1 c.loop-instance.invariant.from;
      each = each_least c.args.spans.now instances i (slice_index_or instances i 0) c.args.from c.loop-instance.least c.least_in-least.result c.loop-instance.invariant.each h.0
          (slice_get-get_or instances i 0 below) (λ j k le. h.2 j k le);
    }

pub returns-clause-least : goal.returns-clause-least
returns-clause-least c p j w k le =
    c.loop-instance.invariant.each w.0 (omega (arith, slice_get_within c.args.instances.now w.0 p w.1, c.loop-instance-test.false)) p w.1 j k le
