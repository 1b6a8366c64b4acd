-- The lines so far are the first ones of the row.
use Rattle.kahn_live.proofs.Common.{◌≡◌, length, map, IsRowFront, bytes_in, is_wordless}
use Rattle.kahn_live.proofs.lines.row_cells.Given as goal

abbrev pub invariant-names : goal.invariant-names
invariant-names l = (l.blank ≡ is_wordless l.row) × IsRowFront l.session l.names l.row (map bytes_in l.cells.items) l.rest l.words

abbrev pub decreases-names : goal.decreases-names
decreases-names l = length l.rest
