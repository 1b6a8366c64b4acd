use Rattle.std.proofs.Common.{None, refl}
use Rattle.kahn_web.proofs.Refused.{allowed, unrun}
use Rattle.kahn_web.proofs.whole.answered.Goals as goal

pub returns-in-Ok : goal.returns-in-Ok
returns-in-Ok c =
    (c.in_ok-input.input, c.in_ok-input.ensures.read, (allowed c.args.bound c.in-Ok.ensures.answered, (None, refl, c.in-Ok.ensures.right)))

pub returns-in-Err : goal.returns-in-Err
returns-in-Err c = (c.in_ok-input.input, c.in_ok-input.ensures.read, unrun c.args.network.now c.args.bound c.in-Err.fault c.in-Err.ensures.refused)
