use Rattle.kahn_board.proofs.Common.{becomes, after_giving_back}
use Rattle.kahn_board.proofs.seat.Seat.give_back.Given as goal

abbrev pub ghosts-fetch_add : goal.ghosts-fetch_add
ghosts-fetch_add g a = record { then = becomes (λ n v. after_giving_back v n) }
