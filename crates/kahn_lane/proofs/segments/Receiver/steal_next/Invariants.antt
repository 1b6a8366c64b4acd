use Rattle.kahn_lane.proofs.Common.{◌≡◌, ◌+◌, ◌≤◌, ◌⊎◌, view}
use Rattle.kahn_lane.specs.LaneEnds.{receiver_lane, received, waiting, heard, left}
use Rattle.kahn_lane.proofs.segments.Receiver.steal_next.Given as goal

abbrev pub invariant-loop : goal.invariant-loop
invariant-loop g l =
    (receiver_lane l.self ≡ receiver_lane l.initial.self)
    × (view l.self.pass ≡ view l.initial.self.pass)
    × (received l.self ≡ received l.initial.self)
    × (l.taken ≡ received l.self)
    × (waiting l.self ≡ 0)
    × ((heard l.initial.self ≤ received l.initial.self) ⊎ (left l.initial.self + l.counter ≤ left l.self))
    × (l.tries ≡ l.initial.tries + l.counter)
