use Rattle.kahn_input_notes.proofs.Common.{◌≡◌, ◌∙◌, ℕ, List, None, Option, Some, subst, sym, IsFound, IsLineNote}
use Rattle.std.specs.Prelude.{MatchOption}
use Rattle.kahn_diagnostic.specs.declared.rendering.Note.{Note}
use Rattle.kahn_input_notes.proofs.feeding.input_note.Goals as goal

pub returns-in_ok-line_note-in-Some-find_line : goal.returns-in_ok-line_note-in-Some-find_line
returns-in_ok-line_note-in-Some-find_line c =
    let t = c.args.network.now in
    let text = c.args.text.now in
    let found = c.in-Some-find_line.found in
    let note = c.in_ok-line_note-in-Some-find_line in
    subst (λ o. MatchOption o (◌≡◌ {A = Option Note} (Some note.field-0) None)
    (λ s. (from : ℕ) × (line : List ℕ) × IsFound text s.0 s.1 from line × IsLineNote t text from line c.args.fault note.field-0))
    (sym c.in-Some.is ∙ c.sought_of.ensures) (found.from, found.line.now, c.in-Some-find_line.ensures, note.ensures)
