use Rattle.kahn_sequential.proofs.Common.{◌≡◌, ℕ, ◌<◌, Some, slice_get, Tapped, StandsAsTold}
use Rattle.kahn_sequential.proofs.taps.all_stood.Given as goal

abbrev pub invariant-loop-instance : goal.invariant-loop-instance
invariant-loop-instance l = (p : ℕ) → p < l.instance → (x : Tapped) → slice_get l.taps p ≡ Some x → StandsAsTold l.network x
