use Rattle.kahn_sequential.proofs.Common.{rules, ◌∙◌, length-set}
use Rattle.kahn_sequential.proofs.{Filled.next_declared, Filled.filling_goes, Lists.all_changed}
use Rattle.kahn_sequential.proofs.streams.fill.Goals as goal

pub fill_one-requires-clause-declared : goal.fill_one-requires-clause-declared
fill_one-requires-clause-declared c = next_declared c.loop-number.invariant.filling (search rules) c.index_mut.ensures.value

pub loop-number-preserved : goal.loop-number-preserved
loop-number-preserved c =
    let e = c.fill_one.ensures in
    record {
      filling = filling_goes c.loop-number.invariant.filling (search rules) c.index_mut.ensures.value c.fill_one.new.lists.items c.fill_one.new.stream e.lists e.filled e.others;
      size = length-set c.loop-number.streams.items c.loop-number.number c.fill_one.new.stream ∙ c.loop-number.invariant.size;
    }

pub returns : goal.returns
returns c = all_changed c.loop-number.invariant.filling.changed (search rules)
