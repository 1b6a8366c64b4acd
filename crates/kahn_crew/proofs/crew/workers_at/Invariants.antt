use Rattle.kahn_crew.proofs.Common.{◌≡◌, ◌≤◌, ◌+◌, ◌++◌, All, length, map, reverse, vec_capacity, WantsNone, seat_of}
use Rattle.kahn_crew.proofs.crew.workers_at.Given as goal

abbrev pub invariant-loop-seat : goal.invariant-loop-seat
invariant-loop-seat l =
    (map seat_of l.workers.items ++ reverse l.seats.items ≡ l.fn.seats.items)
    × All WantsNone l.workers.items
    × (length l.hints.items ≡ length l.seats.items)
    × (length l.workers.items + length l.seats.items ≤ vec_capacity l.workers)
    × (length l.workers.items + length l.seats.items ≤ vec_capacity l.seats)

abbrev pub decreases-loop-seat : goal.decreases-loop-seat
decreases-loop-seat l = length l.seats.items
