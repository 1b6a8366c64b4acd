use Rattle.kahn_input_notes.proofs.Common.{◌∙◌, ap, ap₂, lack_place, part_of}
use Rattle.kahn_input_notes.proofs.refused.head_part.Goals as goal

pub returns : goal.returns
returns c =
    let is = c.content-line.ensures.line in
    c.part_of-word.ensures ∙ ap₂ part_of is (c.lack_of.ensures.span ∙ ap lack_place is)
