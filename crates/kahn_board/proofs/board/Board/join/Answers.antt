use Rattle.kahn_board.proofs.Common.{arith, belongs, dealt, wired}
use Rattle.kahn_board.proofs.{Reseats.joins, Seats.empty_handed}
use Rattle.kahn_board.proofs.board.Board.join.Goals as goal

pub join_seat-requires : goal.join_seat-requires
join_seat-requires g c = let b = c.args.self.now in let o = c.args.other in
    (c.requires.0, c.requires.1, empty_handed o.seat.me o.seat.table_id _ _ o.facts c.requires.2.0, omega (arith, b.sized.0, b.counts.0), joins g.T.Reports.told (belongs g.T.Reports.after b.table.shared.key) (wired b.table.shared.key) (dealt g.T.Reports.told b.table.shared.key) _ _ _ _ c.args.seat.facts.0 c.requires.2)
