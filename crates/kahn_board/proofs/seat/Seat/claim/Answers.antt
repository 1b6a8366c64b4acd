use Rattle.kahn_board.proofs.Common.{rules, arith, none, belongs, wired, ap, steps_of, dite, ℕ_discrete}
use Rattle.kahn_board.proofs.{Steps.claims_at, Returns.claimed_here, Placed.placed, Seats.facts_noted, Seats.facts_took, Seats.room_for}
use Rattle.kahn_board.proofs.seat.Seat.claim.Goals as goal

pub compare_exchange-found-requires : goal.compare_exchange-found-requires
compare_exchange-found-requires g c = let b = c.args.board.now in (
  search rules,
  omega (arith, b.sized.0, c.requires.1),
  claims_at _ _ _ _ _ _ _ c.args.p _ none (placed b c.args.self.now c.requires.0) (omega (arith, b.counts.0, c.requires.1)) (omega arith),
  (λ r _ t. dite (ℕ_discrete r 0) (λ z. ap steps_of (t.0 z).1.3) (λ ne. ap steps_of (t.1 ne))),
)

pub push_front_reserved-requires : goal.push_front_reserved-requires
push_front_reserved-requires g c = let me = c.args.self.now in let k = c.args.board.now.table.shared.key in let told = g.T.Reports.told in let w = wired k in
    let got = (claimed_here told (belongs g.T.Reports.after k) w c.args.self.now.seat.me _ c.args.p _ c.compare_exchange-found.ensures.2.0).0 c.if-found-ne0.false in
    omega (arith, me.held.ok.0, room_for me.seat.me me.seat.table_id _ _ c.args.p me.facts got.1.4 (search rules))

pub invariant_of-self : goal.invariant_of-self
invariant_of-self g c = let me = c.args.self.now in let k = c.args.board.now.table.shared.key in let told = g.T.Reports.told in let w = wired k in let e = c.compare_exchange-found.ensures in
    record { facts = facts_noted me.seat.me _ _ _ _ _ me.facts e.0 ((claimed_here told (belongs g.T.Reports.after k) w c.args.self.now.seat.me _ c.args.p _ e.2.0).1 c.if-found-ne0.true) }

pub returns-then-found-ne0 : goal.returns-then-found-ne0
returns-then-found-ne0 g c = let e = c.compare_exchange-found.ensures in let k = c.args.board.now.table.shared.key in
    ((e.0, e.1), (_, c.if-found-ne0.true, e.2.1, (claimed_here g.T.Reports.told (belongs g.T.Reports.after k) (wired k) c.args.self.now.seat.me _ c.args.p _ e.2.0).1 c.if-found-ne0.true))

pub invariant_of-self-2 : goal.invariant_of-self-2
invariant_of-self-2 g c = let me = c.args.self.now in let k = c.args.board.now.table.shared.key in let told = g.T.Reports.told in let own = belongs g.T.Reports.after k in let w = wired k in let e = c.compare_exchange-found.ensures in
    let got = (claimed_here told own w c.args.self.now.seat.me _ c.args.p _ e.2.0).0 c.if-found-ne0.false in
    record { facts = facts_took told own w me.seat.me _ _ _ _ _ _ _ _ got.0 me.facts e.0 got.1 c.push_front_reserved.ensures.items c.push_front_reserved.ensures.capacity (search rules) }

pub returns : goal.returns
returns g c = let e = c.compare_exchange-found.ensures in let k = c.args.board.now.table.shared.key in
    ((e.0, e.1), (claimed_here g.T.Reports.told (belongs g.T.Reports.after k) (wired k) c.args.self.now.seat.me _ c.args.p _ e.2.0).0 c.if-found-ne0.false)
