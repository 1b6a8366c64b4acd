use Rattle.kahn_program_notes.proofs.Common.{IfSome, string_bytes, subst, sym, Mends}
use Rattle.kahn_program_notes.proofs.syntax.unexpected.unexpected_note.Goals as goal

pub returns : goal.returns
returns c = (
  c.in_ok-place.place.unexpected,
  string_bytes c.in_ok-expected.expected,
  c.in_ok-place.ensures,
  c.in_ok-expected.ensures,
  c.in_ok-note_at.ensures.told,
  subst (λ f. IfSome f (Mends c.args.text.now c.args.span)) (sym c.in_ok-note_at.ensures.fix) c.in_ok-fix.ensures,
)
