use Rattle.kahn_crew.proofs.Common.{Heeds, SitsWith}
use Rattle.kahn_crew.proofs.worker.turns.Given as goal

abbrev pub invariant-loop : goal.invariant-loop
invariant-loop g l =
    (goal.iterator-loop g).can_next l.iterator' × (goal.iterator-loop g).is_finite l.iterator' × Heeds l.initial.worker l.worker × SitsWith l.fn.run 0 l.worker.seat
