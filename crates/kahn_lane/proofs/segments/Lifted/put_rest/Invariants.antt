use Rattle.kahn_lane.proofs.Common.{◌≡◌, ◌+◌, ◌-◌, ◌≤◌, true, Some, vec_len, vec_capacity, worker_view, worker_flavor, tag_name, LiftsTo, SameLifted, Running}
use Rattle.kahn_lane.proofs.segments.Lifted.put_rest.Given as goal

abbrev pub invariant-loop-segment : goal.invariant-loop-segment
invariant-loop-segment g l =
    SameLifted l.initial.self l.self
    × LiftsTo l.self l.input
    × ((worker_flavor l.worker ≡ 0) × ((worker_view l.worker).stage ≡ Running) × ((worker_view l.worker).writes ≡ true) × ((worker_view l.worker).reads ≡ true))
    × ((worker_view l.worker).reads_on ≡ Some (tag_name l.self.from))
    × ((worker_view l.worker).stolen ≡ l.self.first + vec_len l.self.tokens)
    × ((worker_view l.worker).flushed ≡ (worker_view l.initial.worker).flushed)
    × ((worker_view l.worker).flushed ≤ l.self.first + vec_capacity l.self.tokens)

abbrev pub decreases-loop-segment : goal.decreases-loop-segment
decreases-loop-segment g l = (worker_view l.worker).flushed - (worker_view l.worker).stolen
