use Rattle.std.proofs.Common.{rules, ◌≡◌, length}
use Rattle.kahn_pool.proofs.Settled.{fed_all}
use Rattle.kahn_pool.proofs.held.fed.Goals as goal

pub returns : goal.returns
returns c =
    let n = c.loop-parameter.parameter in
    let is : length c.args.task.now.work.ends ≡ n = search rules in
    fed_all c.args.task.now.work.ends n is c.loop-parameter.invariant
