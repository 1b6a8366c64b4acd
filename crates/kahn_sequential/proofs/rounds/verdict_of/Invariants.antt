use Rattle.kahn_sequential.proofs.Common.{◌≡◌, ℕ, false, slice_get, Some, ◌<◌, More, End}
use Rattle.kahn_sequential.proofs.rounds.verdict_of.Given as goal

abbrev pub invariant-loop-end : goal.invariant-loop-end
invariant-loop-end l = (l.memory ≡ false) × ((p : ℕ) (x : End) → p < l.end-index → slice_get l.ends p ≡ Some x → x.outcome ≡ More → ⊥)
