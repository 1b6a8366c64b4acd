use Rattle.kahn_texts.proofs.Common.{flat_map, stream_text}
use Rattle.kahn_texts.proofs.Writing.{fails, stops, goes_on}
use Rattle.kahn_texts.proofs.several.write_report_by.Goals as goal

pub returns-in_err-put_streams_by : goal.returns-in_err-put_streams_by
returns-in_err-put_streams_by g c =
    fails _ _ _ _ c.from_residual.ensures.0 (stops _ _ _ _ (rw c.deref.ensures.value at c.in_err-put_streams_by.ensures))

pub returns : goal.returns
returns g c =
    let streams = flat_map (stream_text c.args.network.now) c.args.answer.now.streams.items in
    goes_on _ _ _ _ streams _ (rw c.deref.ensures.value at c.in_ok-put_streams_by.ensures) (rw c.deref-2.ensures.value at c.write_closing.ensures)
