use Rattle.kahn_sequential.proofs.Common.{◌≡◌, ◌≤◌, ℕ, Some, length, map, slice_get, take, vec_capacity, Stream, network_of, inputs_of, IsOpenStream, stream_line}
use Rattle.kahn_sequential.proofs.streams.opening_streams.Given as goal

abbrev pub invariant-loop-number : goal.invariant-loop-number
invariant-loop-number l = record {
  lines : map stream_line l.streams.items ≡ take l.number l.lines.items;
  given : (j : ℕ) (x : Stream) → slice_get l.streams.items j ≡ Some x → IsOpenStream (network_of l.network) (inputs_of l.input) x;
  size : length l.streams.items ≡ l.number;
  room : length l.lines.items ≤ vec_capacity l.streams;
}
