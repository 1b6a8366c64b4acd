-- None of the instances so far waits on itself.
use Rattle.std.specs.Prelude.{ℕ, ◌<◌, map}
use Rattle.kahn_chain.proofs.Common.{network_of, LeadsOn, stands}
use Rattle.kahn_chain.proofs.reason.has_ring.Given as goal

abbrev pub invariant-loop-instance : goal.invariant-loop-instance
invariant-loop-instance l = (p : ℕ) → p < l.instance → LeadsOn (network_of l.network) (map stands l.ends) p p → ⊥
