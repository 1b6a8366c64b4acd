use Rattle.kahn_board.proofs.Common.{rules, arith, ap, ◌∙◌, steps_of, dite, ℕ_discrete}
use Rattle.kahn_board.proofs.{Hot.notes, Hot.draws, Placed.placed, Placed.noted}
use Rattle.kahn_board.proofs.seat.Seat.draw.Goals as goal

pub load-found-requires : goal.load-found-requires
load-found-requires g c = let b = c.args.board.now in (search rules, omega (arith, c.budget_word-word.ensures, b.sized.0, b.counts.0, b.counts.1), notes _ _ _ _ _ _ _ _ (placed b c.args.self.now c.requires.board), (λ _ _ e. ap steps_of e))

pub compare_exchange-requires : goal.compare_exchange-requires
compare_exchange-requires g c = let b = c.args.board.now in let e = c.load-found.ensures.2.0 in (
  search rules,
  omega (arith, c.budget_word-word.ensures, b.sized.0, b.counts.0, b.counts.1),
  draws _ _ _ _ _ _ _ _ _ _ (noted _ _ _ e (placed b c.args.self.now c.requires.board)) c.budget_word-word.ensures (search rules) (ap (λ m. m.0.drawn) e ∙ c.requires.ready.1),
  (λ r _ t. dite (ℕ_discrete r c.load-found.result) (λ hit. ap steps_of (t.0 hit).0) (λ miss. ap steps_of (t.1 miss))),
)
