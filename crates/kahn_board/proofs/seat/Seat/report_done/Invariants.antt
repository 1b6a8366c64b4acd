use Rattle.kahn_board.proofs.Common.{becomes, after_reporting}
use Rattle.kahn_board.proofs.seat.Seat.report_done.Given as goal

abbrev pub ghosts-load : goal.ghosts-load
ghosts-load g a = record { then = becomes (λ _ v. after_reporting v a._number) }
