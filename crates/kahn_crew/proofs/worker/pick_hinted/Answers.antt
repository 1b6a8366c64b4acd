use Rattle.kahn_crew.proofs.Common.{refl, ◌∙◌}
use Rattle.kahn_crew.proofs.worker.pick_hinted.Goals as goal

pub pick_one-requires : goal.pick_one-requires
pick_one-requires c = let r = c.requires in (r.0, c.loop.invariant.rests r.0 r.1)

pub returns-then-pick_one-clause-picked : goal.returns-then-pick_one-clause-picked
returns-then-pick_one-clause-picked c = λ n rests. c.pick_one.ensures.picked c.if-pick_one.true refl n (c.loop.invariant.rests n rests)

pub loop-preserved : goal.loop-preserved
loop-preserved c = let one = c.pick_one.ensures in let i = c.loop.invariant in record {
  same = ((one.same.0 ∙ i.same.0.0, one.same.1 ∙ i.same.0.1, one.same.2 ∙ i.same.0.2, one.same.3 ∙ i.same.0.3), c.find.ensures ∙ i.same.1, i.same.2);
  rests = λ n rests. one.missed c.if-pick_one.false n (i.rests n rests);
}
