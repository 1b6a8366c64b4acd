use Rattle.kahn_sequential.proofs.Common.{◌≡◌, length, network_of, HoldNumbersTo}
use Rattle.kahn_sequential.proofs.taps.numbers_of.Given as goal

abbrev pub invariant-loop-number : goal.invariant-loop-number
invariant-loop-number l = record {
  count : length l.spans.items ≡ length (network_of l.network).instances;
  numbers : HoldNumbersTo l.number (network_of l.network) l.lines l.spans.items;
}
