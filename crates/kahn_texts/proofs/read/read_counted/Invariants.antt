-- The bytes so far came from the reader, in at most as many reads.
use Rattle.kahn_texts.proofs.Common.{◌+◌, ◌-◌, ◌≤◌, vec_len, Consumes}
use Rattle.kahn_texts.proofs.read.read_counted.Given as goal

abbrev pub invariant-loop-chunk : goal.invariant-loop-chunk
invariant-loop-chunk g l = record {
  came : Consumes (g.R.Read.remaining l.initial.reader) (g.R.Read.remaining l.reader) l.bytes.items;
  within : vec_len l.bytes ≤ l.limit + 1;
  few : g.C.CallCount.count l.reads ≤ g.C.CallCount.count l.initial.reads + vec_len l.bytes;
}

abbrev pub decreases-loop-chunk : goal.decreases-loop-chunk
decreases-loop-chunk g l = l.limit + 1 - vec_len l.bytes
