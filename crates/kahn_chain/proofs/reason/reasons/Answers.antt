use Rattle.kahn_chain.proofs.Common.{rules, network_of, Ended}
use Rattle.kahn_chain.proofs.Reasoned.{one_more}
use Rattle.kahn_chain.proofs.reason.reasons.Goals as goal

pub loop-instance-preserved : goal.loop-instance-preserved
loop-instance-preserved c =
    one_more (network_of c.args.network.now) c.args.verdict c.args.ends.now c.loop-instance.instance (record { outcome = Ended; events = 0 }) _ _ c.loop-instance.reasons.items _
    c.loop-instance.invariant (search rules) (search rules) (search rules) c.in_ok-add_reason.ensures
