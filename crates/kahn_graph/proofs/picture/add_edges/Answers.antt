use Rattle.kahn_graph.proofs.Common.{IsEdge, ◌++◌}
use Rattle.kahn_graph.proofs.Texts.{one_more, grown}
use Rattle.kahn_graph.proofs.picture.add_edges.Goals as goal

pub loop-channel-preserved : goal.loop-channel-preserved
loop-channel-preserved c =
    let (texts, all, before) = c.loop-channel.invariant in
    let (text, is, after) = c.in_ok-add_edge.ensures in
    (texts ++ text, one_more (IsEdge c.args.network.now c.args.streams.now c.args.ends.now) c.loop-channel.channel texts text all is, grown _ _ _ texts text before after)
