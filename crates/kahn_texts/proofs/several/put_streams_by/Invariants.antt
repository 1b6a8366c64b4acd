-- The lines so far went out.
use Rattle.kahn_texts.proofs.Common.{take, flat_map, Appends, stream_text}
use Rattle.kahn_texts.proofs.several.put_streams_by.Given as goal

abbrev pub invariant-loop-stream : goal.invariant-loop-stream
invariant-loop-stream g l = Appends (g.W.Write.contents l.initial.writer) (g.W.Write.contents l.writer) (flat_map (stream_text l.network) (take l.stream-index l.streams))
