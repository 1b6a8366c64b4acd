use Rattle.kahn_graph.specs.Graph.{opening_text, picture_end}
use Rattle.kahn_graph.proofs.Common.{AreRings, map, network_of, stands, subst, sym, ◌∙◌}
use Rattle.kahn_graph.proofs.Texts.{all_grown}
use Rattle.kahn_graph.proofs.picture.picture_text.Goals as goal

pub add_nodes-requires-clause-printing : goal.add_nodes-requires-clause-printing
add_nodes-requires-clause-printing c = c.deref-2.ensures.value ∙ c.in_ok-printing.ensures

pub add_nodes-requires-clause-rings : goal.add_nodes-requires-clause-rings
add_nodes-requires-clause-rings c = subst (AreRings (network_of c.args.network.now) (map stands c.args.ends.now)) (sym c.deref.ensures.value) c.in_ok-rings.ensures

pub add_edges-requires : goal.add_edges-requires
add_edges-requires c = subst (AreRings (network_of c.args.network.now) (map stands c.args.ends.now)) (sym c.deref-3.ensures.value) c.in_ok-rings.ensures

pub returns : goal.returns
returns c =
    let (nodes, all_nodes, after_nodes) = c.in_ok-add_nodes.ensures in
    let (edges, all_edges, after_edges) = c.in_ok-add_edges.ensures in (
      nodes,
      edges,
      all_nodes,
      all_edges,
      all_grown opening_text nodes edges picture_end _ _ _ _ _ c.new-text.ensures.bytes c.in_ok-add.ensures after_nodes after_edges c.in_ok-add-2.ensures,
    )
