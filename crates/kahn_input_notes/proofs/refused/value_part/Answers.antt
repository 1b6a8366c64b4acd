use Rattle.kahn_input_notes.proofs.Common.{◌∙◌, None, ap, subst, IsUnfitSpan, part_of}
use Rattle.kahn_input_notes.proofs.refused.value_part.Goals as goal

pub returns : goal.returns
returns c =
    let is = c.content-line.ensures.line in
    let span = c.unfit_span-span.result in
    (span, subst (λ l. IsUnfitSpan None l span) is c.unfit_span-span.ensures.span, c.part_of-word.ensures ∙ ap (λ l. part_of l span) is)
