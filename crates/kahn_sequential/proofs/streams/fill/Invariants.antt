use Rattle.kahn_sequential.proofs.Common.{◌≡◌, length, network_of}
use Rattle.kahn_sequential.proofs.Filled.{Filling}
use Rattle.kahn_sequential.proofs.streams.fill.Given as goal

abbrev pub invariant-loop-number : goal.invariant-loop-number
invariant-loop-number l = record {
  filling : Filling (network_of l.network) l.fn.lists.items l.fn.streams.items l.lists.items l.streams.items l.number;
  size : length l.streams.items ≡ length l.fn.streams.items;
}
