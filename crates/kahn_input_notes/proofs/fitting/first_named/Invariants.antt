-- The lines so far begin with other names, and this is where they end.
use Rattle.kahn_input_notes.proofs.Common.{◌≡◌, All, false, length, take, text_lines, parts_length, has_line_name}
use Rattle.kahn_input_notes.proofs.fitting.first_named.Given as goal

abbrev pub invariant-loop-line : goal.invariant-loop-line
invariant-loop-line l = record {
  next : (goal.iterator-loop-line).can_next l.line-iterator;
  ends : (goal.iterator-loop-line).is_finite l.line-iterator;
  from : l.from ≡ parts_length (take (length l.yielded) (text_lines l.text));
  others : All (λ line. has_line_name l.name line ≡ false) (take (length l.yielded) (text_lines l.text));
}
