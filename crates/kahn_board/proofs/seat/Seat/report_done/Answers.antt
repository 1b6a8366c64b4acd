use Rattle.kahn_board.proofs.Common.{rules, arith, ap, steps_of}
use Rattle.kahn_board.proofs.{Hot.uses_some, Placed.placed}
use Rattle.kahn_board.proofs.seat.Seat.report_done.Goals as goal

pub load-requires : goal.load-requires
load-requires g c = let b = c.args.board.now in (
  search rules,
  omega (arith, c.budget_word.ensures, b.sized.0, b.counts.0, b.counts.1),
  uses_some _ _ _ _ _ _ _ _ _ (placed b c.args.self.now c.requires.board) c.budget_word.ensures c.requires.drawn,
  (λ _ _ e. ap steps_of e),
)
