use Rattle.kahn_sequential.proofs.Common.{◌≡◌, ◌<◌, ◌≤◌, ℕ, Some, slice_get, IsNumberOf}
use Rattle.kahn_sequential.proofs.taps.least_of.Given as goal

abbrev pub invariant-loop-instance : goal.invariant-loop-instance
invariant-loop-instance l = record {
  from : l.from ≤ l.least;
  each : (k : ℕ) → k < l.instance-index → (p : ℕ) → slice_get l.instances k ≡ Some p → (j : ℕ) → IsNumberOf l.spans p j → l.from ≤ j → l.least ≤ j;
}
