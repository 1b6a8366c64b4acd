use Rattle.kahn_pool.proofs.Common.{rules, next_old, one_changed, all_changed}
use Rattle.kahn_pool.proofs.held.settle_all.Goals as goal

pub settle_task-requires : goal.settle_task-requires
settle_task-requires c =
    let value = c.index_mut.ensures.value in
    c.requires c.loop-instance.instance c.index_mut.result.now (next_old c.loop-instance.invariant (search rules) value)

pub loop-instance-preserved : goal.loop-instance-preserved
loop-instance-preserved c = one_changed c.loop-instance.invariant (search rules) c.index_mut.ensures.value c.settle_task.ensures

pub returns : goal.returns
returns c = all_changed c.loop-instance.invariant (search rules)
