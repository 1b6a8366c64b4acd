use Rattle.kahn_board.proofs.Common.{becomes, after_counting_up}
use Rattle.kahn_board.proofs.seat.Seat.count_up.Given as goal

abbrev pub ghosts-fetch_add : goal.ghosts-fetch_add
ghosts-fetch_add g a = record { then = becomes (λ _. after_counting_up) }
