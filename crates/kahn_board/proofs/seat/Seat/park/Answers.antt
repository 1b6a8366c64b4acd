use Rattle.kahn_board.proofs.Common.{rules, ◌≡◌, true≢false, ap, ◌∙◌, subst, refl, arith, none, wired, TheFirst, GaveUp, first_of, steps_of, dite, ℕ_discrete, ◌*◌}
use Rattle.kahn_board.proofs.{Returns.gave_up, Owed.brought, Owed.parks_at}
use Rattle.kahn_board.proofs.seat.Seat.park.Goals as goal

pub compare_exchange-found-requires : goal.compare_exchange-found-requires
compare_exchange-found-requires g c = let b = c.args.board.now in let r = c.requires in let e = c.bring_to_front.ensures in (
  search rules,
  omega (arith, c.channel_word-word.ensures, r.reads.0, b.sized.0, b.counts.0, b.counts.1),
  parks_at _ _ _ _ _ _ _ c.args.p _ c.args.channel _ c.args.taken _ _ none (brought g.T.Reports.told g.T.Reports.after b c.args.self.now c.bring_to_front.new.self c.args.p _ r.board r.held r.few e.same e.first e.kept)
      c.channel_word-word.ensures (omega (arith, r.reads.0, b.counts.1)) r.reads.1 refl refl r.held.1.3,
  (λ k _ t. dite (ℕ_discrete k (2 * c.args.taken)) (λ hit. ap steps_of (t.0 hit).2) (λ miss. ap steps_of (t.1 miss).1)),
)

pub returns : goal.returns
returns g c = let told = g.T.Reports.told in let w = wired c.args.board.now.table.shared.key in let s = c.bring_to_front.new.self in let e = c.bring_to_front.ensures in let f = c.compare_exchange-found.ensures in let n = c.compare_exchange-found.new.seat.me in
    let first : first_of s.seat.me.1 ≡ c.args.p = ap first_of e.first.1 in
    let t = gave_up told w c.args.self.now s n c.args.p 1 e.same.1 e.kept (subst (λ k. (y : _) × TheFirst told w s.seat.me k y × GaveUp told w s.seat.me k 1 n y) first (f.2.0.0 c.if-found-taken.false)) in
    ((λ _. ((f.0 ∙ e.same.0.0, f.1 ∙ e.same.0.1), t.0, t.1)), λ e. absurd (true≢false e))
