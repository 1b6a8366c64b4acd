use Rattle.kahn_sequential.proofs.Common.{◌≡◌, ◌⊎◌, ◌-◌, [], length, Input, network_of, role_at, inputs_of, IsBegun}
use Rattle.kahn_sequential.proofs.streams.opening_stream.Given as goal

abbrev pub invariant-tokens : goal.invariant-tokens
invariant-tokens l = record {
  begun : IsBegun (network_of l.network) (inputs_of l.input) l.channel (inputs_of l.input l.channel) l.tokens.items;
  given : (l.tokens.items ≡ []) ⊎ (role_at (network_of l.network) l.channel ≡ Input);
}

abbrev pub decreases-tokens : goal.decreases-tokens
decreases-tokens l = length (inputs_of l.input l.channel) - length l.tokens.items
