use Rattle.kahn_board.proofs.Common.{rules, arith, ap, steps_of}
use Rattle.kahn_board.proofs.{Hot.notes, Placed.placed}
use Rattle.kahn_board.proofs.seat.Seat.looks_ready.Goals as goal

pub load-found-requires : goal.load-found-requires
load-found-requires g c = let b = c.args.board.now in (search rules, omega (arith, c.requires.1, b.sized.0), notes _ _ _ _ _ _ _ _ (placed b c.args.self.now c.requires.0), (λ _ _ e. ap steps_of e))
