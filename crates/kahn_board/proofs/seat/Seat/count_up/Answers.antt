use Rattle.kahn_board.proofs.Common.{rules, arith, ap, steps_of}
use Rattle.kahn_board.proofs.{Hot.counts_up, Placed.placed}
use Rattle.kahn_board.proofs.seat.Seat.count_up.Goals as goal

pub fetch_add-requires : goal.fetch_add-requires
fetch_add-requires g c = let b = c.args.board.now in (
  search rules,
  omega (arith, c.count_word.ensures, b.sized.0, b.counts.0, b.counts.1),
  counts_up _ _ _ _ _ _ _ _ (placed b c.args.self.now c.requires.board) c.count_word.ensures (omega (arith, b.counts.0, b.limits.0)) c.requires.owes,
  (λ _ _ e. ap steps_of e),
)
