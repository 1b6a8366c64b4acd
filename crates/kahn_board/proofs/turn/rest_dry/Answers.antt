use Rattle.kahn_board.proofs.Common.{refl, ap, ◌∙◌, belongs, holds, wired, after_counting_down}
use Rattle.kahn_board.proofs.{Keeps.was_at, Left.kept_turn, Left.kept_fits}
use Rattle.kahn_board.proofs.turn.rest_dry.Goals as goal

pub rest_ready-requires-clause-holds : goal.rest_ready-requires-clause-holds
rest_ready-requires-clause-holds g c = let k = c.args.board.now.table.shared.key in let h = c.requires.holds in let e = c.if-not-park.ensures.1 refl in let m = c.args.seat.now.seat.me in let n = c.park.new.self.seat.me in (
  h.0,
  h.1,
  h.2,
  kept_turn _ _ _ _ m n e.1.3 e.2 h.3,
  kept_fits g.T.Reports.told (belongs g.T.Reports.after k) (wired k) _ _ m n e.1.3 h.4,
  tt,
)

pub returns-clause-parked : goal.returns-clause-parked
returns-clause-parked g c = λ _ y had.
    let up = c.if-not-park.ensures.0 refl in
    let e = up.1 y had in
    let d = c.count_down.ensures in
    (d.1.0, was_at (holds g.T.Reports.told g.T.Reports.after c.args.board.now.table.shared.key) _ _ _ _ _ _ _ _ up.0.1 e refl refl d.1.1, ap (λ m. m.0) d.0.1 ∙ ap after_counting_down e)
