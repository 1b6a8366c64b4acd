use Rattle.kahn_graph.proofs.Common.{[], bytes_of, codes, concat, if◌then◌else◌, option_map, process_prints, stands, string_bytes, values_text, ◌+◌, ◌++◌, ◌∷◌}
use Rattle.std.specs.Prelude.{decimal}
use Rattle.kahn_graph.specs.{Graph.colour_text, Ran.ended_text}
use Rattle.kahn_graph.proofs.Texts.{grown}
use Rattle.kahn_graph.proofs.nodes.add_made.Goals as goal

pub returns : goal.returns
returns c =
    let i = c.args.instance in
    let p = c.args.made.process.now in
    let first = concat (codes "  p" ∷ decimal i ∷ codes " [label=\"" ∷ decimal (i + 1) ∷ codes " " ∷ bytes_of p.name ∷ []) in
    let values = values_text (codes "\\n") p.parameters.items c.args.made.arguments.now in
    let ended = ended_text c.args.network.now c.args.end in
    let red = if c.args.ring then codes ", color=red" else [] in
    let last = concat (codes "\"" ∷ (if process_prints p then codes ", peripheries=2" else []) ∷ colour_text (option_map stands c.args.end) ∷ red ∷ []) in
    let head = rw (c.format-node.ensures.text, c.format-number.ensures.text, c.as_str-name.ensures.value) at c.in_ok-add.ensures in
    let told = rw c.deref.ensures.value at c.in_ok-add_values.ensures in
    let tail = rw (c.text_if-border.ensures, c.colour.ensures, c.text_if-red.ensures, c.requires.prints) at c.in_ok-add-2.ensures in
    grown (string_bytes c.args.text.now) _ _ first (values ++ (ended ++ last)) head
    (grown (string_bytes c.add.new.text) _ _ values (ended ++ last) told (grown (string_bytes c.add_values.new.text) _ _ ended last c.in_ok-add_ended.ensures tail))
