use Rattle.kahn_crew.proofs.Common.{arith, ◌+◌, ◌%◌, ◌∙◌, sym, subst, dite, ℕ_discrete, mod-lt, WasNotReady}
use Rattle.kahn_crew.proofs.Round.{not_ready_of, none_ready}
use Rattle.kahn_crew.proofs.worker.look_round.Goals as goal

pub pick_one-requires : goal.pick_one-requires
pick_one-requires c = (0, c.loop-step.invariant.idle)

pub returns-then-pick_one-clause-found : goal.returns-then-pick_one-clause-found
returns-then-pick_one-clause-found c = λ claims. c.pick_one.ensures.picked c.if-pick_one.true claims 0 c.loop-step.invariant.idle

pub returns-then-pick_one-clause-looked : goal.returns-then-pick_one-clause-looked
returns-then-pick_one-clause-looked c = λ no. c.pick_one.ensures.looked no 0 c.loop-step.invariant.idle

pub loop-step-preserved : goal.loop-step-preserved
loop-step-preserved c = let one = c.pick_one.ensures in let i = c.loop-step.invariant in let n = c.args.run.now.board.now.instances in let start = c.args.worker.now.start in let run = c.args.run.now in record {
  same = ((one.same.0 ∙ i.same.0.0, one.same.1 ∙ i.same.0.1, one.same.2 ∙ i.same.0.2, one.same.3 ∙ i.same.0.3), i.same.1, i.same.2);
  idle = one.missed c.if-pick_one.false 0 i.idle;
  late = λ k lt. dite (ℕ_discrete k c.loop-step.step)
      (λ is. subst (λ j. WasNotReady run c.args.worker.now.seat ((start % n + j) % n)) (sym is)
      (not_ready_of run c.args.worker.now.seat c.loop-step.worker.seat ((start % n + c.loop-step.step) % n) i.same.0.1 (one.late c.if-pick_one.false (mod-lt (start % n + c.loop-step.step) (omega (arith, c.loop-step-test.true))))))
      (λ ne. i.late k (omega (arith, lt, ne)));
}

pub returns-clause-found : goal.returns-clause-found
returns-clause-found c = λ _. (
  c.loop-step.invariant.idle,
  none_ready c.args.run.now c.args.worker.now.seat c.args.run.now.board.now.instances c.args.worker.now.start (λ k lt. c.loop-step.invariant.late k (omega (arith, lt, c.loop-step-test.false))),
)

pub returns-clause-looked : goal.returns-clause-looked
returns-clause-looked c = λ _. c.loop-step.invariant.idle
