use Rattle.kahn_board.proofs.Common.{rules, arith, refl, holds, ap, steps_of}
use Rattle.kahn_board.proofs.{Hot.counts_down, Keeps.was_at, Placed.placed}
use Rattle.kahn_board.proofs.seat.Seat.count_down.Goals as goal

pub fetch_sub-requires : goal.fetch_sub-requires
fetch_sub-requires g c = let b = c.args.board.now in (
  search rules,
  omega (arith, c.count_word.ensures, b.sized.0, b.counts.0, b.counts.1),
  (λ s a wide me small. let t = counts_down _ _ _ _ _ _ _ _ (placed b c.args.self.now c.requires.board) c.count_word.ensures c.requires.owes s a wide me small in (t.0, t.1, t.2, t.3, (t.4, (s, (a, me), refl)))),
  (λ _ _ t. ap steps_of t.0),
)

pub returns : goal.returns
returns g c = let b = c.args.board.now in let rule = holds g.T.Reports.told g.T.Reports.after b.table.shared.key in let e = c.fetch_sub.ensures in
    (((e.0, e.1), e.2.0), (c.fetch_sub.result, was_at rule _ _ _ _ _ _ _ _ refl refl c.count_word.ensures refl e.2.1))
