-- The histories of the channels so far, and behind them the print streams so far.
use Rattle.kahn_explain.proofs.Common.{◌≡◌, ◌++◌, flat_map, map, take, all_channels, AreColumns, AreOfChannels, print_part}
use Rattle.kahn_explain.proofs.tracing.columns_of.Given as goal

abbrev pub invariant-loop-channel : goal.invariant-loop-channel
invariant-loop-channel l = AreColumns l.network l.run (all_channels l.channel) (map (λ s. s.now) l.columns.items)

abbrev pub invariant-loop-stream : goal.invariant-loop-stream
invariant-loop-stream l = record {
  channels : AreOfChannels l.network l.run (map (λ s. s.now) l.initial.columns.items);
  prints : map (λ s. s.now) l.columns.items ≡ map (λ s. s.now) l.initial.columns.items ++ flat_map print_part (take l.stream-index l.run.answer.streams.items);
}
