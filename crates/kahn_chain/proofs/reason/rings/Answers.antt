use Rattle.kahn_chain.proofs.Common.{map, network_of, stands, IsRingMark}
use Rattle.kahn_chain.proofs.Caused.{one_more}
use Rattle.kahn_chain.proofs.reason.rings.Goals as goal

pub loop-instance-preserved : goal.loop-instance-preserved
loop-instance-preserved c =
    one_more (IsRingMark (network_of c.args.network.now) (map stands c.args.ends.now)) c.loop-instance.instance c.loop-instance.marks.items _ _ c.loop-instance.invariant c.cause_of.ensures.ring
    c.in_ok-push.ensures.items
