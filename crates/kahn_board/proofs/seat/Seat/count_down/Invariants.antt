use Rattle.kahn_board.proofs.Common.{after_counting_down, at_moment, becomes, holds}
use Rattle.kahn_board.proofs.seat.Seat.count_down.Given as goal

abbrev pub ghosts-fetch_sub : goal.ghosts-fetch_sub
ghosts-fetch_sub g a = record { then = at_moment (holds g.T.Reports.told g.T.Reports.after a.self.now.table.shared.key) a.seat.now.id (becomes (λ _. after_counting_down)) }
