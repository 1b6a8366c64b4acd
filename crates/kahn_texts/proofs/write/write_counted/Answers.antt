use Rattle.kahn_texts.proofs.Common.{flat_map, stream_text}
use Rattle.kahn_texts.proofs.{Flushes.unflushed, Writing.fails, Writing.stops, Writing.goes_on}
use Rattle.kahn_texts.proofs.write.write_counted.Goals as goal

pub returns-in_err-put_streams-clause-text : goal.returns-in_err-put_streams-clause-text
returns-in_err-put_streams-clause-text g c =
    fails _ _ _ _ c.from_residual.ensures.0 (stops _ _ _ _ (rw c.deref.ensures.value at c.in_err-put_streams.ensures.text))

pub returns-clause-text : goal.returns-clause-text
returns-clause-text g c =
    let streams = flat_map (stream_text c.args.network.now) c.args.answer.now.streams.items in
    goes_on _ _ _ _ streams _ (rw c.deref.ensures.value at c.in_ok-put_streams.ensures.text) (rw c.deref-2.ensures.value at c.closing_counted.ensures.text)

pub returns-in_err-put_streams-clause-once : goal.returns-in_err-put_streams-clause-once
returns-in_err-put_streams-clause-once g c = unflushed _ _ c.from_residual.ensures.0
