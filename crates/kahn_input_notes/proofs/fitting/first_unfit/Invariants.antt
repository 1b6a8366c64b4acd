-- The parts so far are fit, and this is where they end.
use Rattle.kahn_input_notes.proofs.Common.{◌≡◌, All, length, take, slice_split, is_blank, IsFitPart, parts_length}
use Rattle.kahn_input_notes.proofs.fitting.first_unfit.Given as goal

abbrev pub invariant-loop-word : goal.invariant-loop-word
invariant-loop-word l = record {
  next : (goal.iterator-loop-word).can_next l.word-iterator;
  ends : (goal.iterator-loop-word).is_finite l.word-iterator;
  from : l.from ≡ parts_length (take (length l.yielded) (slice_split is_blank l.bytes));
  fit : All (IsFitPart l.asked) (take (length l.yielded) (slice_split is_blank l.bytes));
}
