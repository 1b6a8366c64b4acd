-- The notes so far stand in the lines.
use Rattle.kahn_explanation.proofs.Common.{All, string_bytes, take, StandsIn}
use Rattle.kahn_explanation.proofs.explaining.note_lines.Given as goal

abbrev pub invariant-loop-note : goal.invariant-loop-note
invariant-loop-note l = All (StandsIn l.path l.text (string_bytes l.lines)) (take l.note-index l.notes)
