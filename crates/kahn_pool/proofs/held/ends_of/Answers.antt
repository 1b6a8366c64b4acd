use Rattle.std.proofs.Common.{◌∙◌, add-one}
use Rattle.kahn_pool.proofs.Ended.{more_ends}
use Rattle.kahn_pool.proofs.held.ends_of.Goals as goal

pub loop-instance-preserved : goal.loop-instance-preserved
loop-instance-preserved c =
    let t = c.args.part.now.network.now in
    let i = c.loop-instance.invariant in
    let n = c.loop-instance.instance in
    record {
      ends = rw (c.push_reserved.ensures.items, add-one n)
          (more_ends t c.args.part.now.input.now c.args.tasks.now c.loop-instance.ends.items n c.end_of.result i.ends c.end_of.ensures);
      room = c.push_reserved.ensures.capacity ∙ i.room;
    }
