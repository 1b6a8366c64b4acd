use Rattle.kahn_texts.proofs.Common.{◌++◌, take, rules, Appends-trans}
use Rattle.kahn_texts.proofs.Writing.{moves_front, one_more}
use Rattle.kahn_texts.proofs.bytes.put.Goals as goal

pub loop-rest-preserved : goal.loop-rest-preserved
loop-rest-preserved g c =
    let (done, split, appended, few) = c.loop-rest.invariant in
    let rest = c.loop-rest.rest.now in
    let n = c.in-Ok.count in (
      done ++ take n rest,
      moves_front _ done rest n split,
      Appends-trans _ _ _ _ _ appended c.in-Ok.ensures.bytes,
      one_more _ _ _ done rest n few c.tick.ensures c.in-Ok.ensures.bound (search rules),
    )
