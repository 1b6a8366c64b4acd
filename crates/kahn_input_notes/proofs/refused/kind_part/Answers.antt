use Rattle.kahn_input_notes.proofs.Common.{◌∙◌, ap, subst, IsKindFor, IsUnfitSpan, line_name, part_of}
use Rattle.kahn_input_notes.proofs.refused.kind_part.Goals as goal

pub returns : goal.returns
returns c =
    let is = c.content-line.ensures.line in
    let kind = c.kind_for-kind.result in
    let span = c.unfit_span-span.result in (
      kind,
      span,
      subst (λ n. IsKindFor c.args.network.now n kind) (c.line_name.ensures ∙ ap line_name is) c.kind_for-kind.ensures,
      subst (λ l. IsUnfitSpan kind l span) is c.unfit_span-span.ensures.span,
      c.part_of-word.ensures ∙ ap (λ l. part_of l span) is,
    )
