use Rattle.kahn_board.proofs.Common.{◌/◌, set_down, wired}
use Rattle.kahn_board.proofs.seat.Seat.set_down.Given as goal

abbrev pub ghosts-store : goal.ghosts-store
ghosts-store g a = record { then = λ st m r n. set_down g.T.Reports.told (wired a.self.now.table.shared.key) (a.word / 8) st m r n }
