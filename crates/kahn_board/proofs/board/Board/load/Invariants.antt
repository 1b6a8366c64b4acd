use Rattle.kahn_board.proofs.Common.{at_moment, holds}
use Rattle.kahn_board.proofs.board.Board.load.Given as goal

abbrev pub ghosts-load : goal.ghosts-load
ghosts-load g a = record { then = at_moment (holds g.T.Reports.told g.T.Reports.after a.self.now.key) a.seat.now.id g.P.Play.then }
