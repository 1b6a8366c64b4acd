use Rattle.kahn_crew.proofs.Common.{◌-◌, inr, rules}
use Rattle.kahn_crew.proofs.Heeding.{heeds_then, heeds_still}
use Rattle.kahn_crew.proofs.worker.spend_all.Goals as goal

pub pick_hinted-requires : goal.pick_hinted-requires
pick_hinted-requires g c = (c.loop-first.left - c.spend-done.result, c.spend-done.ensures.rests.1)

pub loop-first-preserved : goal.loop-first-preserved
loop-first-preserved g c =
    let a = c.args.worker.now in
    let s = c.spend-done.new.worker in
    let b = c.pick_hinted.new.worker in
    record {
      same = heeds_then a s b (heeds_then a c.loop-first.worker s c.loop-first.invariant.same c.spend-done.ensures.same) (heeds_still s b c.pick_hinted.ensures.same);
      holds = c.in-Some.ensures.picked (c.loop-first.left - c.spend-done.result) c.spend-done.ensures.rests.1;
      may = inr (search rules, search rules);
    }

pub returns-in_default-clause-rests : goal.returns-in_default-clause-rests
returns-in_default-clause-rests g c = c.in_default.ensures.left (c.loop-first.left - c.spend-done.result) c.spend-done.ensures.rests.1
