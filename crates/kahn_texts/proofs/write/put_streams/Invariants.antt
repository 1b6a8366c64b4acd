-- The lines so far went out, by at most as many writes.
use Rattle.kahn_texts.proofs.Common.{◌+◌, ◌≤◌, length, take, flat_map, Appends, stream_text}
use Rattle.kahn_texts.proofs.write.put_streams.Given as goal

abbrev pub invariant-loop-stream : goal.invariant-loop-stream
invariant-loop-stream g l = record {
  gone : Appends (g.W.Write.contents l.initial.writer) (g.W.Write.contents l.writer) (flat_map (stream_text l.network) (take l.stream-index l.streams));
  few : g.C.CallCount.count l.writes ≤ g.C.CallCount.count l.initial.writes + length (flat_map (stream_text l.network) (take l.stream-index l.streams));
}
