use Rattle.kahn_texts.proofs.Common.{rules, ◌<◌, length, ◌++◌, get_or, subst, sym, Appends-trans, End, end_text, AppendsFront}
use Rattle.kahn_streams.specs.declared.answer.Outcome.TheVariants.{Ended}
use Rattle.kahn_texts.proofs.{Writing.fails, Writing.few_on, Writing.goes_on_front, Writing.stops, Ends.ends_split, Ends.ends_moved}
use Rattle.kahn_texts.proofs.write.put_ends.Goals as goal

nobody : End
nobody = record { outcome = Ended; events = 0 }

pub loop-instance-preserved : goal.loop-instance-preserved
unfolding nobody
loop-instance-preserved g c =
    let (done, split, gone, few) = c.loop-instance.invariant in
    let network = c.args.network.now in
    let ends = c.args.ends.now in
    let i = c.loop-instance.instance in
    let line = end_text network i (get_or ends i nobody) in
    (done ++ line, ends_moved network ends i nobody _ done (search rules) split, Appends-trans _ _ _ done line gone c.in_ok-put_end.ensures.text, few_on _ _ _ done line few c.put_end.ensures.few)

pub returns-in_err-put_end-clause-text : goal.returns-in_err-put_end-clause-text
unfolding nobody
returns-in_err-put_end-clause-text g c =
    let (done, split, gone, few) = c.loop-instance.invariant in
    let network = c.args.network.now in
    let ends = c.args.ends.now in
    let i = c.loop-instance.instance in
    let line = end_text network i (get_or ends i nobody) in
    let below : i < length ends = search rules in
    fails _ _ _ _ c.from_residual.ensures.0
    (subst (AppendsFront _ _) (sym split) (goes_on_front _ _ _ done _ gone
    (subst (AppendsFront _ _) (sym (ends_split network ends i nobody below)) (stops _ _ line _ c.in_err-put_end.ensures.text))))
