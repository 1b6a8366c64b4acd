-- The walk so far.
use Rattle.kahn_chain.proofs.Common.{map, network_of, stands}
use Rattle.kahn_chain.proofs.Walking.{Walks}
use Rattle.kahn_chain.proofs.walk.walk.Given as goal

abbrev pub invariant-loop : goal.invariant-loop
invariant-loop l = Walks (network_of l.network) (map stands l.ends) l.first l.sought l.at l.least l.counter l.found
