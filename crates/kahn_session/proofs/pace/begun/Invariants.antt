-- The streams so far have.
use Rattle.kahn_session.proofs.Common.{◌≡◌, ◌<◌, ◌++◌, ℕ, List, [], Some, slice_get, slice_index_or, Line, Value, so_far}
use Rattle.kahn_session.proofs.pace.begun.Given as goal

abbrev pub invariant-loop-line : goal.invariant-loop-line
invariant-loop-line l = record {
  each : (j : ℕ) (c : Line) → j < l.line-index → slice_get l.lines j ≡ Some c → (news : List Value) × (so_far l.run.flow.run c ≡ slice_index_or l.run.flow.out j [] ++ news);
}
