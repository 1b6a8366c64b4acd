-- The reasons so far.
use Rattle.kahn_chain.proofs.Common.{network_of, AreSoFar}
use Rattle.kahn_chain.proofs.reason.reasons.Given as goal

abbrev pub invariant-loop-instance : goal.invariant-loop-instance
invariant-loop-instance l = AreSoFar (network_of l.network) l.verdict l.ends l.instance l.reasons.items
