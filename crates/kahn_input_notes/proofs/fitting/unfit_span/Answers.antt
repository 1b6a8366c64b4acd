use Rattle.kahn_input_notes.proofs.Common.{rules, arith, ◌≡◌, ◌∙◌, ◌-◌, ap, drop, inl, inr, length, subst, take_all, AreAllFit, IsUnfit, moved_by, rest_from}
use Rattle.std.proofs.lemmas.List.{length-drop}
use Rattle.kahn_input_notes.proofs.fitting.unfit_span.Goals as goal

pub returns-in-Some-clause-span : goal.returns-in-Some-clause-span
returns-in-Some-clause-span c =
    let line = c.args.line.now in
    let at = c.min-from.result in
    let from : at ≡ rest_from line = search rules in
    let long = length-drop at line in
    let whole = take_all (length line - at) (drop at line) (omega (arith, long)) in
    inl (
      c.in-Some.span,
      subst (λ n. IsUnfit c.args.asked (drop n line) c.in-Some.span) from (subst (λ l. IsUnfit c.args.asked l c.in-Some.span) whole c.in-Some.ensures.first),
      c.moved_by.ensures.span ∙ ap (λ n. moved_by n c.in-Some.span) from,
    )

pub returns-in-None-clause-span : goal.returns-in-None-clause-span
returns-in-None-clause-span c =
    let line = c.args.line.now in
    let at = c.min-from.result in
    let from : at ≡ rest_from line = search rules in
    let long = length-drop at line in
    let whole = take_all (length line - at) (drop at line) (omega (arith, long)) in
    inr (subst (λ n. AreAllFit c.args.asked (drop n line)) from (subst (AreAllFit c.args.asked) whole c.in-None.ensures.first), c.name_span.ensures.span)
