use Rattle.kahn_sequential.proofs.Common.{◌≡◌, ℕ, ◌<◌, Some, slice_get, AreCounts, Tapped}
use Rattle.kahn_sequential.proofs.taps.all_sized.Given as goal

abbrev pub invariant-loop-instance : goal.invariant-loop-instance
invariant-loop-instance l = (p : ℕ) → p < l.instance → (x : Tapped) → slice_get l.taps p ≡ Some x → AreCounts x.told
