use Rattle.std.proofs.Common.{Contains, inl, inr, refl, subst, sym, ◌∙◌}
use Rattle.std.proofs.lemmas.List.Elements.{Contains-push}
use Rattle.kahn_diagnostic.specs.declared.rendering.Other.{Other}
use Rattle.kahn_program_notes.specs.Notes.{IsThereOrFixed}
use Rattle.kahn_program_notes.proofs.syntax.unexpected.note_at.Goals as goal

pub returns-in_default-clause-told : goal.returns-in_default-clause-told
returns-in_default-clause-told c =
    inl (subst (IsThereOrFixed c.args.span c.args.parts.1) (sym c.in_ok-note.ensures.span) c.heading_at.ensures, c.in_ok-note.ensures.words ∙ c.as_str.ensures.value)

pub returns-clause-told : goal.returns-clause-told
returns-clause-told c =
    let o : Other = record { span = c.args.span; words = c.args.expected } in
    inr (o, subst (λ l. Contains l o) (sym c.in_ok-push.ensures.items) (Contains-push _ o), refl, refl)
