use Rattle.kahn_lane.proofs.Common.{◌≡◌, ◌+◌, ◌≤◌, ◌⊎◌, length, view}
use Rattle.kahn_lane.specs.RelayEnds.{taker_relay, got, known_given, left_items}
use Rattle.kahn_lane.proofs.segments.Taker.steal_next.Given as goal

abbrev pub invariant-loop : goal.invariant-loop
invariant-loop g l =
    (taker_relay l.self ≡ taker_relay l.initial.self)
    × (view l.self.pass ≡ view l.initial.self.pass)
    × ((known_given l.initial.self ≤ length (got l.initial.self)) ⊎ (left_items l.initial.self + l.counter ≤ left_items l.self))
    × (l.tries ≡ l.initial.tries + l.counter)
