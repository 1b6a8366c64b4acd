-- What the entries so far give.
use Rattle.kahn_streams.proofs.Common.{◌≡◌, length, map, entry_of}
use Rattle.kahn_streams.proofs.Entered.{AreFilled}
use Rattle.kahn_streams.proofs.input.filled.Given as goal

abbrev pub invariant-loop-name : goal.invariant-loop-name
invariant-loop-name l = record {
  next : (goal.iterator-loop-name).can_next l.name-iterator;
  ends : (goal.iterator-loop-name).is_finite l.name-iterator;
  number : l.number ≡ length l.yielded;
  filled : AreFilled l.network (map entry_of l.yielded) l.given.items l.input;
}
