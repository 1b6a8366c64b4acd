use Rattle.kahn_explain.proofs.Common.{rules, length, refl, subst, sym, add-one, slice_get_read, inputs_of, network_of, AreFirstEnds}
use Rattle.kahn_explain.proofs.Kept_columns.{stream_listed}
use Rattle.kahn_explain.proofs.needing.firsts.Goals as goal

pub add_first-requires-clause-line : goal.add_first-requires-clause-line
add_first-requires-clause-line c =
    let ss = c.args.run.now.answer.streams.items in
    let k = c.loop-number.number in
    let s = c.index-stream.result.now in
    stream_listed c.args.network.now c.args.run.now k s c.requires.run (slice_get_read ss (length ss) k s refl (search rules) c.index-stream.ensures)

pub loop-number-preserved : goal.loop-number-preserved
loop-number-preserved c =
    let a = c.args in
    let ss = a.run.now.answer.streams.items in
    let k = c.loop-number.number in
    let s = c.index-stream.result.now in
    let at = slice_get_read ss (length ss) k s refl (search rules) c.index-stream.ensures in
    record {
      ends = subst (λ m. AreFirstEnds (network_of a.network.now) a.run.now.answer (inputs_of a.lists.now) a.at.0 a.at.1 m c.worse-verdict.result) (sym (add-one k))
          (s, c.loop-number.verdict, c.in_ok-told.told.0, at, c.loop-number.invariant.ends, c.in_ok-told.ensures.end, c.worse-verdict.ensures);
      seeker = c.in_ok-told.ensures.last;
    }
