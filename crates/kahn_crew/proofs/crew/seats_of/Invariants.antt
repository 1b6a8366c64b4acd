use Rattle.kahn_crew.proofs.Common.{◌≡◌, ◌↔◌, ◌<◌, true, All, map, vec_capacity, HasCause, seat_of}
use Rattle.kahn_crew.proofs.Crewed.{crew_raised}
use Rattle.kahn_crew.proofs.crew.seats_of.Given as goal

abbrev pub invariant-loop-worker : goal.invariant-loop-worker
invariant-loop-worker l =
    (goal.iterator-loop-worker).can_next l.worker-iterator
    × (goal.iterator-loop-worker).is_finite l.worker-iterator
    × (l.seats.items ≡ map seat_of l.yielded)
    × (All HasCause l.yielded → 0 < crew_raised l.yielded ↔ l.wanted ≡ true)
    × (vec_capacity l.seats ≡ vec_capacity l.fn.seats)
