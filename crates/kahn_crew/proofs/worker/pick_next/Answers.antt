use Rattle.kahn_crew.proofs.Common.{refl}
use Rattle.kahn_crew.proofs.Round.{picked_since}
use Rattle.kahn_crew.proofs.worker.pick_next.Goals as goal

pub pick_hinted-requires : goal.pick_hinted-requires
pick_hinted-requires c = (0, c.requires)

pub wait_a_little-requires : goal.wait_a_little-requires
wait_a_little-requires c = c.in_default.ensures.left 0 c.requires

pub returns-in-Some-clause-found : goal.returns-in-Some-clause-found
returns-in-Some-clause-found c = c.in-Some.ensures.picked 0 c.requires

pub returns-in-Some-pick_hinted-clause-found : goal.returns-in-Some-pick_hinted-clause-found
returns-in-Some-pick_hinted-clause-found c = c.in-Some-pick_hinted.ensures.picked 0 c.wait_a_little.ensures.1

pub returns-clause-found : goal.returns-clause-found
returns-clause-found c =
    let run = c.args.run.now in
    let b = c.pick_hinted.new.worker in
    let w = c.wait_a_little.new.worker in
    let d = c.look_round.new.worker in
    picked_since run c.args.worker.now b d c.look_round.result c.pick_hinted.ensures.same (picked_since run b w d c.look_round.result c.wait_a_little.ensures.0
    (picked_since run w c.pick_hinted-2.new.worker d c.look_round.result c.pick_hinted-2.ensures.same (c.look_round.ensures.found refl)))
