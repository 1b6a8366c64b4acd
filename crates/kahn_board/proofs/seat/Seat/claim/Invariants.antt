use Rattle.kahn_board.proofs.Common.{◌/◌, claimed, belongs, wired}
use Rattle.kahn_board.proofs.seat.Seat.claim.Given as goal

abbrev pub ghosts-compare_exchange : goal.ghosts-compare_exchange
ghosts-compare_exchange g a = record { then = claimed g.T.Reports.told (belongs g.T.Reports.after a.self.now.table.shared.key) (wired a.self.now.table.shared.key) (a.word / 8) }
