use Rattle.kahn_program_notes.proofs.Common.{string_bytes, subst, sym, AreFaultsOf}
use Rattle.kahn_diagnostic.specs.Notes.{IsApplied}
use Rattle.kahn_program_notes.proofs.network.changes.left_by.Goals as goal

pub returns-then-are_fewer : goal.returns-then-are_fewer
returns-then-are_fewer c =
    let fix = c.args.fix.now in
    let other = c.as_str-other.result.now in
    let made : IsApplied c.args.text.now fix (string_bytes c.in-Some.changed) = rw c.in-Some.is at c.in_ok-changed.ensures in
    let left : AreFaultsOf other c.in-Some-2.left.items = rw c.in-Some-2.is at c.in_ok-left.ensures in (
      other,
      c.deref-2.result.now,
      subst (IsApplied c.args.text.now fix) (sym c.as_str-other.ensures.value) made,
      subst (AreFaultsOf other) (sym c.deref-2.ensures.value) left,
      c.are_fewer.ensures.fewer c.if-are_fewer.true,
      c.are_fewer.ensures.known c.if-are_fewer.true,
    )
