-- Inner. The words of the library and of the crates below that this crate's contracts use, passed on from one place.
pub use Rattle.std.proofs.Props.{props}
pub use Rattle.std.specs.Coded.{Unit-prop, codes}
pub use Rattle.std.specs.Prelude.{Bool, IfNone, IfOk, IfSome, IsFalse, IsOk, IsSome, IsTrue, List, MatchResult, None, OnErr, OnOk, Option, Result, Some, [], false, length, map, replicate, slice_get, slice_index_or, slice_set, true, ℕ}
pub use Rattle.std.specs.declared.alloc.Global.{Global}
pub use Rattle.kahn_code.specs.{Lines.Joins, Lines.Waiting, Lines.given_of, Lines.taken_of, Lines.waiting_of, Progress.IsPause, Progress.Paused, Standing.site_code, Standing.count, declared.progress.Pause.Pause, inner.Gone.nothing_gone, inner.Opening.IsOpening, inner.Tapped.Tapped}
pub use Rattle.kahn_code.specs.Progress.{AreCounts, IsAt, CellView, WantsRoom, site_of, told_view}
pub use Rattle.kahn_lane.specs.LaneEnds.{capacity, filled, flushed, heard, left, received, receiver_lane, receiver_name, sender_lane, sender_name, sent, waiting}
pub use Rattle.kahn_lane.specs.Places.{Named, lane_name, moved_to, name-prop, token_name}
pub use Rattle.kahn_lane.specs.{declared.name.LaneName.LaneName, declared.segments.Receiver.Receiver, declared.segments.Sender.Sender, inner.Settles.IsGrown}
pub use Rattle.kahn_streams.specs.{Answers.is_output, Meaning.Store, Script.Dry, Script.ScriptOutcome, Solution.AreInputsExtended, Solution.ending, Wiring.side_at, declared.sides.Side.Side, declared.tree.Program.Program}
pub use Rattle.kahn_streams.specs.Inputs.{Lists, Names, inputs_of}
pub use Rattle.kahn_streams.specs.Network.{Actual, Hands, Schema, Reads, Writes, actual_at, instance_at, network_of, role_at}
pub use Rattle.kahn_streams.specs.declared.tree.Role.TheVariants.{Inner, Input, Output}
