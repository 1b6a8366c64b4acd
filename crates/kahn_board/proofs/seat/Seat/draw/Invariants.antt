use Rattle.kahn_board.proofs.Common.{drew}
use Rattle.kahn_board.proofs.seat.Seat.draw.Given as goal

abbrev pub ghosts-compare_exchange : goal.ghosts-compare_exchange
ghosts-compare_exchange g a = record { then = drew }
