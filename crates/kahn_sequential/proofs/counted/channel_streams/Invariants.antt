-- The streams of the channels so far.
use Rattle.kahn_sequential.proofs.Common.{◌≤◌, length, vec_capacity, network_of, AreOpenChannels}
use Rattle.kahn_sequential.proofs.counted.channel_streams.Given as goal

abbrev pub invariant-loop-channel : goal.invariant-loop-channel
invariant-loop-channel l = record {
  are : AreOpenChannels l.network l.input l.streams.items l.channel;
  room : length (network_of l.network).channels ≤ vec_capacity l.streams;
}
