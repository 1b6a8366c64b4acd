use Rattle.kahn_texts.proofs.Common.{rules, stream_text}
use Rattle.kahn_texts.proofs.Writing.{fails, loop_fails, loop_few}
use Rattle.kahn_texts.proofs.write.put_streams.Goals as goal

pub returns-in_err-put_line_values-clause-text : goal.returns-in_err-put_line_values-clause-text
returns-in_err-put_line_values-clause-text g c =
    let failed = rw (c.values-values.ensures, c.stream-item.is) at c.in_err-put_line_values.ensures.text in
    fails _ _ _ _ c.from_residual.ensures.0
    (loop_fails (stream_text c.args.network.now) c.args.streams.now c.loop-stream.stream-index _ _ _ _ (search rules) c.loop-stream.invariant.gone failed)

pub returns-in_err-put_line_values-clause-few : goal.returns-in_err-put_line_values-clause-few
returns-in_err-put_line_values-clause-few g c =
    let few = rw (c.values-values.ensures, c.stream-item.is) at c.put_line_values.ensures.few in
    loop_few (stream_text c.args.network.now) c.args.streams.now c.loop-stream.stream-index _ _ _ _ (search rules) c.loop-stream.invariant.few few
