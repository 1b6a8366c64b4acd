-- What is left of the text comes behind the row so far.
use Rattle.kahn_diagnostic.proofs.Common.{◌≡◌, ◌+◌, ◌++◌, IsUtf8, chars, string_bytes, char_indices_offset, char_indices_rest, shown_row}
use Rattle.kahn_diagnostic.proofs.Written.{written}
use Rattle.kahn_diagnostic.proofs.rows.add_row.Given as goal

abbrev pub invariant-loop-at : goal.invariant-loop-at
invariant-loop-at l =
    IsUtf8 (char_indices_rest l.at-iterator)
    × (string_bytes l.text ++ written l.row l.near l.part (l.first + char_indices_offset l.at-iterator) (chars (char_indices_rest l.at-iterator))
    ≡ string_bytes l.initial.text ++ shown_row l.row l.source l.near l.part)
