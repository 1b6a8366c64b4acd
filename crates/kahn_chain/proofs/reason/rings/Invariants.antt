-- The marks so far.
use Rattle.kahn_chain.proofs.Common.{map, network_of, stands, IsRingMark}
use Rattle.kahn_chain.proofs.Caused.{AreFirst}
use Rattle.kahn_chain.proofs.reason.rings.Given as goal

abbrev pub invariant-loop-instance : goal.invariant-loop-instance
invariant-loop-instance l = AreFirst (IsRingMark (network_of l.network) (map stands l.ends)) l.instance l.marks.items
