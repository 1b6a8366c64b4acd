use Rattle.kahn_board.proofs.Common.{rules}
use Rattle.kahn_board.proofs.Left.{left}
use Rattle.kahn_board.proofs.turn.go_on.Goals as goal

pub returns-in_default : goal.returns-in_default
returns-in_default g c = let t = left g.T.Reports.told g.T.Reports.after c.args.board.now.table.shared.key c.args.seat.now c.look.new.self c.look.result c.look.ensures c.requires.idle c.in_default.not-Go in
    record { same = t.0; idle = t.1; goes = search rules; left = λ _. (t.2, (c.look.result, c.in_default.not-Go, c.look.ensures)) }
