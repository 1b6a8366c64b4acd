use Rattle.kahn_graph.proofs.Common.{ap₂, codes, node_text, ◌++◌}
use Rattle.kahn_graph.proofs.Texts.{grown}
use Rattle.kahn_graph.proofs.nodes.add_node.Goals as goal

pub returns : goal.returns
returns c =
    let process = c.instance-made.result.process.now in
    let arguments = c.instance-made.result.arguments.now in
    let ring = c.is_ring_instance-ring.result in
    let (tip, (x, found, is), after) = c.in_ok-add_tip.ensures in (
      node_text c.args.network.now c.end_of-end.result c.args.instance process arguments ring ++ (tip ++ codes "];\n"),
      (process, arguments, x, ring, c.instance-made.ensures.declared, found, c.is_ring_instance-ring.ensures, ap₂ (λ o y. node_text c.args.network.now o c.args.instance process arguments ring ++ (y ++ codes "];\n")) c.end_of-end.ensures is),
      grown _ _ _ _ _ c.in_ok-add_made.ensures (grown _ _ _ tip _ after c.in_ok-add.ensures),
    )
