use Rattle.kahn_lane.proofs.Common.{arith, ap, subst, sym, ◌∙◌, tag_name, IsGrown, Tag}
use Rattle.kahn_lane.proofs.segments.Lifted.put_all.Goals as goal

pub loop-at-preserved : goal.loop-at-preserved
loop-at-preserved g c =
    let i = c.loop-at.invariant in
    let p = c.put.ensures.same in (
      (p.0 ∙ i.0.0, p.1 ∙ i.0.1, p.2 ∙ i.0.2, p.3 ∙ i.0.3),
      (ap (λ (t : Tag). t.input.value) p.1 ∙ i.1.0, subst (λ (t : Tag). IsGrown (tag_name t) c.args.input.now) (sym p.0) i.1.1),
      omega (arith, c.put.ensures.more, i.2),
    )
