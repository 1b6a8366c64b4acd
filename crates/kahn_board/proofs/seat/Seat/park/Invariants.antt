use Rattle.kahn_board.proofs.Common.{parked_or_not, first_of, wired}
use Rattle.kahn_board.proofs.seat.Seat.park.Given as goal

abbrev pub ghosts-compare_exchange : goal.ghosts-compare_exchange
ghosts-compare_exchange g a = record { then = λ st m r n. parked_or_not g.T.Reports.told (wired a.self.now.table.shared.key) (first_of m.1) st m r n }
