use Rattle.kahn_graph.proofs.Common.{[], at_index, bytes_of, codes, concat, rules, string_bytes, ◌++◌, ◌∷◌}
use Rattle.kahn_texts.specs.Shown.{spot_text}
use Rattle.kahn_graph.proofs.Named.{as_many_trees}
use Rattle.kahn_graph.proofs.Texts.{grown}
use Rattle.kahn_graph.proofs.nodes.add_tip.Goals as goal

pub index-placed-requires : goal.index-placed-requires
index-placed-requires c =
    let within = as_many_trees c.args.network.now c.args.instance c.requires in
    search (rules, within)

pub returns : goal.returns
returns c =
    let placed = c.index-placed.result.now in
    let within = as_many_trees c.args.network.now c.args.instance c.requires in
    let spot = spot_text (codes " at ") c.args.source.now placed.process.span.from in
    let head = rw c.as_str.ensures.value at c.in_ok-add.ensures in (
      _,
      (placed, at_index c.args.network.now.instances.items c.args.instance placed within (search rules), search rules),
      grown (string_bytes c.args.text.now) _ _ (concat (codes ", tooltip=\"" ∷ bytes_of placed.process ∷ [])) (spot ++ codes "\"") head
          (grown (string_bytes c.add.new.text) _ _ spot (codes "\"") c.in_ok-add_spot.ensures c.in_ok-add-2.ensures),
    )
