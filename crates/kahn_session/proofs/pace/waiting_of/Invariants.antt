-- What was taken, and what is left of the values, are those behind the rows.
use Rattle.kahn_session.proofs.Common.{◌≡◌, ◌++◌, drop, next_of}
use Rattle.kahn_session.proofs.pace.waiting_of.Given as goal

abbrev pub invariant-loop-place : goal.invariant-loop-place
invariant-loop-place l =
    l.left.items ++ drop l.place (next_of l.run l.number) ≡ drop l.count (next_of l.run l.number)
