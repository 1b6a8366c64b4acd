use Rattle.kahn_board.proofs.Common.{◌-◌, ◌/◌, publishes, belongs, wired}
use Rattle.kahn_board.proofs.seat.Seat.publish.Given as goal

abbrev pub ghosts-swap : goal.ghosts-swap
ghosts-swap g a = record { then = λ st m r n. publishes g.T.Reports.told (belongs g.T.Reports.after a.self.now.table.shared.key) (wired a.self.now.table.shared.key) (a.word / 8 - (wired a.self.now.table.shared.key).instances) st m r n }
