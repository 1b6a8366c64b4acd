use Rattle.kahn_lane.proofs.Common.{arith, ap, subst, sym, ◌∙◌, Some, tag_name, IsGrown, Tag, Mark}
use Rattle.kahn_lane.proofs.segments.Lifted.put_rest.Goals as goal

pub loop-segment-preserved : goal.loop-segment-preserved
loop-segment-preserved g c =
    let i = c.loop-segment.invariant in
    let p = c.put_segment.ensures.same in
    let e = c.in-Some.ensures.rule in (
      (p.0 ∙ i.0.0, p.1 ∙ i.0.1, p.2 ∙ i.0.2, p.3 ∙ i.0.3),
      (ap (λ (t : Tag). t.input.value) p.1 ∙ i.1.0, subst (λ (t : Tag). IsGrown (tag_name t) c.args.input.now) (sym p.0) i.1.1),
      (c.pop_as.ensures.same.0.1 ∙ i.2.0, ap (λ (m : Mark). m.stage) e.2 ∙ i.2.1, ap (λ (m : Mark). m.writes) e.2 ∙ i.2.2, ap (λ (m : Mark). m.reads) e.2 ∙ i.2.3),
      ap (λ (m : Mark). m.reads_on) e.2 ∙ (i.3 ∙ ap (λ (t : Tag). Some (tag_name t)) (sym p.0)),
      omega (arith, ap (λ (m : Mark). m.stolen) e.2, i.4, p.2, c.put_segment.ensures.more),
      ap (λ (m : Mark). m.flushed) e.2 ∙ i.5,
      omega (arith, ap (λ (m : Mark). m.flushed) e.2, i.6, p.2, p.3),
    )
