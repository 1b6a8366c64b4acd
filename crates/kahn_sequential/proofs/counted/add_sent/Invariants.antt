-- The channels so far.
use Rattle.kahn_sequential.proofs.Common.{◌≡◌, length, network_of}
use Rattle.kahn_sequential.proofs.{Lists.ChangedTo, Recording.Adds}
use Rattle.kahn_sequential.proofs.counted.add_sent.Given as goal

abbrev pub invariant-loop-channel : goal.invariant-loop-channel
invariant-loop-channel l = record {
  changed : ChangedTo (Adds l.network l.queues) l.fn.streams.items l.streams.items l.channel;
  size : length l.streams.items ≡ length (network_of l.network).channels;
}
