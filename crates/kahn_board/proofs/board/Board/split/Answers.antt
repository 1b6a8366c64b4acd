use Rattle.kahn_board.proofs.Common.{rules, arith, belongs, dealt, wired}
use Rattle.kahn_board.proofs.Reseats.{splits}
use Rattle.kahn_board.proofs.board.Board.split.Goals as goal

pub split_seat-second-requires : goal.split_seat-second-requires
split_seat-second-requires g c = let b = c.args.self.now in (search rules, omega (arith, b.sized.0, b.counts.0), splits g.T.Reports.told (belongs g.T.Reports.after b.table.shared.key) (wired b.table.shared.key) (dealt g.T.Reports.told b.table.shared.key) _ _ c.requires.1 c.requires.2.3)
