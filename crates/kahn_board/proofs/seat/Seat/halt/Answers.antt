use Rattle.kahn_board.proofs.Common.{rules, refl, arith, ap, steps_of}
use Rattle.kahn_board.proofs.{Hot.stops, Placed.placed}
use Rattle.kahn_board.proofs.seat.Seat.halt.Goals as goal

pub store-requires : goal.store-requires
store-requires g c = let b = c.args.board.now in (
  search rules,
  omega (arith, c.halted_word.ensures, b.sized.0, b.counts.0, b.counts.1),
  stops _ _ _ _ _ _ _ _ _ (placed b c.args.self.now c.requires.board) c.halted_word.ensures refl,
  (λ _ _ e. ap steps_of e),
)
