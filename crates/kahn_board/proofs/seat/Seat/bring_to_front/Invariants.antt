use Rattle.kahn_board.proofs.Common.{◌≡◌, IsSameSeat, KeepsAll}
use Rattle.kahn_board.proofs.Counting.{before}
use Rattle.kahn_board.proofs.seat.Seat.bring_to_front.Given as goal

abbrev pub invariant-loop-self : goal.invariant-loop-self
invariant-loop-self g l = IsSameSeat l.initial.self l.self × (l.self.seat.me.0 ≡ l.initial.self.seat.me.0) × KeepsAll l.initial.self l.self

abbrev pub decreases-loop-self : goal.decreases-loop-self
decreases-loop-self g l = before l.p l.self.held.items
