-- All bytes so far are shown.
use Rattle.std.proofs.Common.{◌≡◌, ◌+◌, IsUtf8, chars, length}
use Rattle.std.specs.Str.Iter.{char_indices_offset, char_indices_rest}
use Rattle.kahn_texts.specs.Shown.{shown_length}
use Rattle.kahn_texts.proofs.shown.shown_length.Given as goal

abbrev pub invariant-loop-at : goal.invariant-loop-at
invariant-loop-at l =
    let rest = char_indices_rest l.at-iterator in
    let at = char_indices_offset l.at-iterator in
    IsUtf8 rest × (at + length rest ≡ length l.text) × (shown_length 0 (chars l.text) ≡ at + shown_length at (chars rest))
