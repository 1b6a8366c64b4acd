use Rattle.kahn_explanation.proofs.Common.{◌≡◌, ◌==◌, ◌∙◌, [], All, ap, length, string_bytes, subst, take, true, most_notes, StandsIn}
use Rattle.kahn_explanation.proofs.Noted.{all_longer, none_stand}
use Rattle.kahn_explanation.proofs.explaining.warned_lines.Goals as goal

pub returns-then-is_empty : goal.returns-then-is_empty
returns-then-is_empty c =
    let notes = c.in_ok-notes.notes.items in (
      notes,
      c.in_ok-notes.ensures,
      none_stand c.args.path.now c.args.text.now _ notes c.is_empty.result _ c.is_empty.ensures c.in_ok-notes.notes.ok.0 c.if-is_empty.true,
      λ e. c.new.ensures.bytes,
    )

pub returns : goal.returns
returns c =
    let path = c.args.path.now in
    let text = c.args.text.now in
    let notes = c.in_ok-notes.notes.items in
    let new = string_bytes c.add_more.new.text in
    let first : c.first_ones.result.0.now ≡ take most_notes notes = c.first_ones.ensures.first ∙ ap (take most_notes) c.deref.ensures.value in
    let some : notes ≡ [] → new ≡ [] = (λ e. let none : c.is_empty.result ≡ true = c.is_empty.ensures ∙ ap (λ n. n == 0) (c.in_ok-notes.notes.ok.0 ∙ ap length e) in cc (none, c.if-is_empty.false)) in
    (notes, c.in_ok-notes.ensures, subst (All (StandsIn path text new)) first (all_longer path text _ _ new _ c.in_ok-add_more.ensures c.in_ok-lines.ensures), some)
