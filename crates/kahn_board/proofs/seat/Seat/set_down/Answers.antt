use Rattle.kahn_board.proofs.Common.{rules, ◌≡◌, ℕ, ◌*◌, ◌/◌, ap, ◌∙◌, subst, arith, wired, TheFirst, GaveUp, downs_of, steps_of}
use Rattle.kahn_board.proofs.{Returns.gave_up, Owed.brought, Owed.readies, Owed.ends}
use Rattle.kahn_board.proofs.seat.Seat.set_down.Goals.{in-Ready, in-Over}
use Rattle.kahn_board.proofs.seat.Seat.set_down.Goals as goal

pub store-requires : goal.store-requires
store-requires g c = let b = c.args.board.now in let r = c.requires in let e = c.bring_to_front.ensures in
    let u = brought g.T.Reports.told g.T.Reports.after b c.args.self.now c.bring_to_front.new.self c.args.p _ r.board r.held r.few e.same e.first e.kept in (
      search rules,
      omega (arith, u.inside, b.sized.0, b.counts.0),
      elim c.match-rest.branch [ in-Ready k ↦ readies _ _ _ _ _ _ _ c.args.p _ _ _ u (omega arith) k.new-is | in-Over k ↦ ends _ _ _ _ _ _ _ c.args.p _ _ _ u (omega arith) k.new-is (r.held.1.3 k.in-Over.is) ],
      (λ _ _ t. ap steps_of t.2),
    )

pub returns : goal.returns
returns g c = let told = g.T.Reports.told in let w = wired c.args.board.now.table.shared.key in let s = c.bring_to_front.new.self in let e = c.bring_to_front.ensures in let f = c.store.ensures in
    let more : c.match-rest.new / 2 ≡ downs_of c.args.rest = elim c.match-rest.branch [ in-Ready k ↦ omega (arith, k.new-is, ap downs_of k.in-Ready.is) | in-Over k ↦ omega (arith, k.new-is, ap downs_of k.in-Over.is) ] in
    let here : 8 * c.args.p / 8 ≡ c.args.p = omega arith in
    let t = gave_up told w c.args.self.now s c.store.new.seat.me c.args.p (downs_of c.args.rest) e.same.1 e.kept (subst (λ (k : ℕ × ℕ). (y : _) × TheFirst told w s.seat.me k.0 y × GaveUp told w s.seat.me k.0 k.1 c.store.new.seat.me y) (λ i. (here i, more i)) f.2) in
    ((f.0 ∙ e.same.0.0, f.1 ∙ e.same.0.1), t.0, t.1)
