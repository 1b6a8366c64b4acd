use Rattle.kahn_sequential.proofs.Common.{arith}
use Rattle.kahn_sequential.proofs.flow.lend.Goals as goal

pub add_one-requires : goal.add_one-requires
add_one-requires c = omega (arith, c.loop-number-test.true, c.loop-number.invariant.room, c.requires.room)
