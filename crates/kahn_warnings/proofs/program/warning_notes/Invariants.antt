-- The notes on the warnings so far.
use Rattle.kahn_warnings.proofs.Common.{AreNotesOf, take}
use Rattle.kahn_warnings.proofs.program.warning_notes.Given as goal

abbrev pub invariant-loop-warning : goal.invariant-loop-warning
invariant-loop-warning l = AreNotesOf (take l.warning-index l.warning-items) l.notes.items
