use Rattle.kahn_board.proofs.Common.{arith, refl, ◌∙◌, ◌≡◌, ℕ, suc, ◌+◌, ◌-◌, subst, AreLost}
use Rattle.kahn_board.proofs.Left.{same_noted_twice, same_self}
use Rattle.kahn_board.proofs.turn.draw_some.Goals as goal

pub loop-init : goal.loop-init
loop-init g c = (refl, refl, same_self c.args.seat.now.seat.me, refl)

pub returns-in-Got-clause-draws : goal.returns-in-Got-clause-draws
returns-in-Got-clause-draws g c = (c.loop.counter - 1, c.loop.seat, omega (arith, c.loop-test.true), c.loop.invariant.3, c.in-Got.ensures, λ lost. absurd cc)

pub returns-in-Empty-clause-draws : goal.returns-in-Empty-clause-draws
returns-in-Empty-clause-draws g c = (c.loop.counter - 1, c.loop.seat, omega (arith, c.loop-test.true), c.loop.invariant.3, c.in-Empty.ensures, λ lost. absurd cc)

pub loop-preserved : goal.loop-preserved
loop-preserved g c = let e = c.in-Lost.ensures in let i = c.loop.invariant in
    let again : suc (c.loop.counter - 1) ≡ c.loop.counter + 1 - 1 = omega (arith, c.loop.auto.counter) in (
      e.0.0.0 ∙ i.0,
      e.0.0.1 ∙ i.1,
      same_noted_twice _ _ _ i.2 e.0.1,
      subst (λ (k : ℕ). AreLost g.T.Reports.told g.T.Reports.after c.args.board.now.table.shared.key c.args.quantum k c.args.seat.now c.draw.new.self) again (c.loop.seat, i.3, e),
    )

pub returns-clause-draws : goal.returns-clause-draws
returns-clause-draws g c = (c.loop.counter - 1, c.loop.seat, omega (arith, c.loop.auto.counter-end), c.loop.invariant.3, c.draw-2.ensures, λ lost. omega (arith, c.loop-test.false, c.loop.auto.counter, c.loop.auto.counter-end))
