use Rattle.kahn_board.proofs.Common.{◌≡◌, ◌-◌, AreLost}
use Rattle.kahn_board.proofs.Left.{Same}
use Rattle.kahn_board.proofs.turn.draw_some.Given as goal

abbrev pub invariant-loop : goal.invariant-loop
invariant-loop g l =
    (l.seat.seat.table_id ≡ l.initial.seat.seat.table_id) × (l.seat.seat.id ≡ l.initial.seat.seat.id) × Same l.initial.seat.seat.me l.seat.seat.me
    × AreLost g.T.Reports.told g.T.Reports.after l.fn.board.table.shared.key l.fn.quantum (l.counter - 1) l.initial.seat l.seat
