-- The standings so far.
use Rattle.kahn_chain.proofs.Common.{◌≡◌, map, take, stands}
use Rattle.kahn_chain.proofs.reason.standings.Given as goal

abbrev pub invariant-loop-end : goal.invariant-loop-end
invariant-loop-end l = l.list.items ≡ map stands (take l.end-index l.ends)
