use Rattle.kahn_board.proofs.Common.{rules, arith, ap, steps_of}
use Rattle.kahn_board.proofs.{Hot.gives_back, Placed.placed}
use Rattle.kahn_board.proofs.seat.Seat.give_back.Goals as goal

pub fetch_add-requires : goal.fetch_add-requires
fetch_add-requires g c = let b = c.args.board.now in (
  search rules,
  omega (arith, c.budget_word.ensures, b.sized.0, b.counts.0, b.counts.1),
  gives_back _ _ _ _ _ _ _ _ _ (placed b c.args.self.now c.requires.board) c.budget_word.ensures c.requires.drawn,
  (λ _ _ e. ap steps_of e),
)
