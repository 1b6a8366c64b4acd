-- The counts of the channels so far.
use Rattle.kahn_sequential.proofs.Common.{◌≤◌, length, vec_capacity, network_of, sight_of, AreCountsOf}
use Rattle.kahn_sequential.proofs.counted.counts_of.Given as goal

abbrev pub invariant-loop-channel : goal.invariant-loop-channel
invariant-loop-channel l = record {
  are : AreCountsOf (sight_of l.bench) l.counts.items l.channel;
  room : length (network_of l.network).channels ≤ vec_capacity l.counts;
}
