use Rattle.kahn_board.proofs.Common.{◌≡◌, ◌≤◌, ◌+◌, length, vec_capacity}
use Rattle.kahn_board.proofs.Joined.{Splitting}
use Rattle.kahn_board.proofs.turn.split_all.Given as goal

abbrev pub invariant-loop : goal.invariant-loop
invariant-loop g l = Splitting l.fn.board.table.shared.table_id l.fn.seat l.seats.items l.first × (length l.seats.items + 1 ≡ l.counter) × (l.count ≤ vec_capacity l.seats)
