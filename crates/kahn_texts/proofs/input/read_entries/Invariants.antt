-- The entries so far are the first of those of the lines so far, each of which is blank or an entry.
use Rattle.kahn_texts.proofs.Common.{◌≡◌, length, map, take, All, entry_of, IsGood, text_lines}
use Rattle.kahn_texts.proofs.Kept.{AreRead}
use Rattle.kahn_texts.proofs.input.read_entries.Given as goal

abbrev pub invariant-loop-line : goal.invariant-loop-line
invariant-loop-line l = record {
  next : (goal.iterator-loop-line).can_next l.line-iterator;
  ends : (goal.iterator-loop-line).is_finite l.line-iterator;
  number : l.number ≡ length l.yielded;
  read : AreRead (text_lines l.text) l.channels (length l.yielded) (map entry_of l.entries.items);
  good : All IsGood (take (length l.yielded) (text_lines l.text));
}
