use Rattle.kahn_board.proofs.Common.{sees}
use Rattle.kahn_board.proofs.seat.Seat.look.Given as goal

abbrev pub ghosts-load : goal.ghosts-load
ghosts-load g a = record { then = sees a._number }
