use Rattle.kahn_lane.proofs.Common.{◌≡◌, ◌+◌, vec_len, LiftsTo, SameLifted}
use Rattle.kahn_lane.proofs.segments.Lifted.put_all.Given as goal

abbrev pub invariant-loop-at : goal.invariant-loop-at
invariant-loop-at g l =
    SameLifted l.initial.self l.self
    × LiftsTo l.self l.input
    × (vec_len l.self.tokens + l.initial.used ≡ vec_len l.initial.self.tokens + l.at)
