use Rattle.kahn_sequential.proofs.Common.{◌≡◌, ◌++◌, drop, network_of, channel_lines}
use Rattle.kahn_sequential.proofs.streams.add_channels.Given as goal

abbrev pub invariant-loop-channel : goal.invariant-loop-channel
invariant-loop-channel l =
    l.lines.items ++ channel_lines l.watch (drop l.channel (network_of l.network).channels) l.channel ≡ l.fn.lines.items ++ channel_lines l.watch (network_of l.network).channels 0
