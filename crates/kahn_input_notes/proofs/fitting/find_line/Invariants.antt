-- The lines so far count as many as aren't left, and this is where they end.
use Rattle.kahn_input_notes.proofs.Common.{◌≡◌, ◌+◌, ℕ, length, take, text_lines, parts_length, CountTo}
use Rattle.kahn_input_notes.proofs.fitting.find_line.Given as goal

abbrev pub invariant-loop-whole : goal.invariant-loop-whole
invariant-loop-whole l = record {
  next : (goal.iterator-loop-whole).can_next l.whole-iterator;
  ends : (goal.iterator-loop-whole).is_finite l.whole-iterator;
  from : l.from ≡ parts_length (take (length l.yielded) (text_lines l.text));
  count : (n : ℕ) × CountTo l.entries (take (length l.yielded) (text_lines l.text)) n × (n + l.left ≡ l.number);
}
