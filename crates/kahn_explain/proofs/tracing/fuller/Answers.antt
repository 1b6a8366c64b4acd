use Rattle.std.proofs.Common.{arith}
use Rattle.kahn_explain.proofs.Most.{next_is, stays}
use Rattle.kahn_explain.proofs.tracing.fuller.Goals as goal

pub returns-then-most-left : goal.returns-then-most-left
returns-then-most-left c =
    next_is c.args.network.now c.args.counts.now c.args.next c.args.one c.left_of-left.result c.requires.one c.left_of-left.ensures c.if-most-left.true

pub returns : goal.returns
returns c =
    let left = c.left_of-left.ensures in
    let less = c.if-most-left.false in
    stays c.args.network.now c.args.counts.now c.args.next c.args.one c.requires.one (omega (arith, left, less))
