use Rattle.kahn_graph.proofs.Common.{IsNode, ◌++◌}
use Rattle.kahn_graph.proofs.Texts.{one_more, grown}
use Rattle.kahn_graph.proofs.nodes.add_nodes.Goals as goal

pub loop-instance-preserved : goal.loop-instance-preserved
loop-instance-preserved c =
    let (texts, all, before) = c.loop-instance.invariant in
    let (text, is, after) = c.in_ok-add_node.ensures in
    (texts ++ text, one_more (IsNode c.args.network.now c.args.source.now c.args.ends.now) c.loop-instance.instance texts text all is, grown _ _ _ texts text before after)
