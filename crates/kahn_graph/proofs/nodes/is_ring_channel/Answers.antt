use Rattle.kahn_graph.proofs.Common.{IsWaitAt, map, network_of, stands, subst}
use Rattle.kahn_graph.proofs.Marked.{no_wait_more, some_wait}
use Rattle.kahn_graph.proofs.nodes.is_ring_channel.Goals as goal

pub returns-then-is_wait_at : goal.returns-then-is_wait_at
returns-then-is_wait_at c =
    some_wait (network_of c.args.network.now) (map stands c.args.ends.now) c.args.channel c.loop-instance.instance
    (subst (IsWaitAt (network_of c.args.network.now) (map stands c.args.ends.now) c.args.channel c.loop-instance.instance) c.if-is_wait_at.true c.is_wait_at.ensures)

pub loop-instance-preserved : goal.loop-instance-preserved
loop-instance-preserved c =
    no_wait_more (network_of c.args.network.now) (map stands c.args.ends.now) c.args.channel c.loop-instance.instance c.loop-instance.invariant
    (subst (IsWaitAt (network_of c.args.network.now) (map stands c.args.ends.now) c.args.channel c.loop-instance.instance) c.if-is_wait_at.false c.is_wait_at.ensures)
