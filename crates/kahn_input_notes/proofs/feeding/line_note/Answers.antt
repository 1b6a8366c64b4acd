use Rattle.kahn_input_notes.proofs.Common.{refl}
use Rattle.kahn_input_notes.proofs.feeding.line_note.Goals as goal

pub returns : goal.returns
returns c = (
  refl,
  c.new.ensures.items,
  (c.kind_for-kind.result, c.fault_span-span.result, rw c.line_name-name.ensures at c.kind_for-kind.ensures, c.fault_span-span.ensures.span, c.moved_by.ensures.span),
  rw c.line_name-name.ensures at c.in_ok-given_first.ensures,
)
