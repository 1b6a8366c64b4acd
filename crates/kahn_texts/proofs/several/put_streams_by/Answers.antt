use Rattle.kahn_texts.proofs.Common.{rules, stream_text}
use Rattle.kahn_texts.proofs.Writing.{fails, loop_fails}
use Rattle.kahn_texts.proofs.several.put_streams_by.Goals as goal

pub returns-in_err-put_stream_by : goal.returns-in_err-put_stream_by
returns-in_err-put_stream_by g c =
    let failed = rw c.stream-item.is at c.in_err-put_stream_by.ensures in
    fails _ _ _ _ c.from_residual.ensures.0
    (loop_fails (stream_text c.args.network.now) c.args.streams.now c.loop-stream.stream-index _ _ _ _ (search rules) c.loop-stream.invariant failed)
