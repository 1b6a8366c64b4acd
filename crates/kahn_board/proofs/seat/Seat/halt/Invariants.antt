use Rattle.kahn_board.proofs.Common.{becomes, after_halting}
use Rattle.kahn_board.proofs.seat.Seat.halt.Given as goal

abbrev pub ghosts-store : goal.ghosts-store
ghosts-store g a = record { then = becomes (λ _. after_halting) }
