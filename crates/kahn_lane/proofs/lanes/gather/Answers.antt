use Rattle.kahn_lane.proofs.Common.{ap, subst, sym, ◌∙◌, tag_name, IsGrown, Tag, Mark}
use Rattle.kahn_lane.proofs.LaneMoves.{behind}
use Rattle.kahn_lane.proofs.lanes.gather.Goals as goal

pub len_as-segments-requires : goal.len_as-segments-requires
len_as-segments-requires g c = let is = c.absorb.ensures.rule in behind _ _ _ (ap (λ (m : Mark). m.stage) is) (ap (λ (m : Mark). m.writes) is) (ap (λ (m : Mark). m.reads) is)

pub put_rest-requires-clause-input : goal.put_rest-requires-clause-input
put_rest-requires-clause-input g c =
    let p = c.put_all.ensures.same in
    (ap (λ (t : Tag). t.input.value) p.1 ∙ c.tag_by.ensures.names.1, subst (λ (t : Tag). IsGrown (tag_name t) c.args.input.now) (sym p.0) c.requires.grown)

pub put_all-requires-2-clause-input : goal.put_all-requires-2-clause-input
put_all-requires-2-clause-input g c =
    let p = c.put_all.ensures.same in
    let q = c.put_rest.ensures.same in
    (ap (λ (t : Tag). t.input.value) (q.1 ∙ p.1) ∙ c.tag_by.ensures.names.1, subst (λ (t : Tag). IsGrown (tag_name t) c.args.input.now) (sym (q.0 ∙ p.0)) c.requires.grown)
