-- Inner. The words of the library and of the crates below that this crate's contracts use, passed on from one place.
pub use Rattle.std.specs.Coded.{codes}
pub use Rattle.std.specs.Prelude.{All, Bool, Err, IfErr, IfNone, IfOk, IfSome, List, None, OnErr, OnOk, Option, Some, [], false, length, map, option_map, position, reverse, slice_get, slice_index, slice_index_or, sum_by, true, ℕ}
pub use Rattle.std.specs.Option.{option_map_or}
pub use Rattle.std.specs.Vec.{vec_capacity}
pub use lib.ListN.{get_elem?}
pub use mathlib.Core.Option.{some}
pub use Rattle.atomic_table.specs.Seated.{TableId}
pub use Rattle.kahn_board.specs.{Calls.Was, Plays.SeesMore, Rule.channel_at, Rule.opening_view, Wires.Summary, Wires.TellsEnd, Wires.TellsWait}
pub use Rattle.kahn_board.specs.Rule.{belongs, dealt, events_told, wired}
pub use Rattle.kahn_board.specs.declared.{seat.Seat.Seat, board.Terms.Terms, view.SeatView.SeatView}
pub use Rattle.kahn_board.specs.inner.Turn.{BeginsTurn, EndsTurn, HoldsInTurn, IsBetween, IsBetweenTurns, IsDoneAt, IsLoneSeat, IsSeatOf, SetsStill, SitsAt, parts_of, raised_of}
pub use Rattle.kahn_code.specs.{Standing.count, declared.progress.Pause.TheVariants.NoMemory}
pub use Rattle.kahn_job.specs.declared.task.TaskStanding.{TaskStanding, TheVariants.Going}
pub use Rattle.kahn_job.specs.inner.{Berths.AreJoinedOn, Berths.end_at, Ends.TaskEnd, Idles.AreIdle, Idles.HaveSettled, Idles.rows_of, Tasks.Continues, Tasks.Tasked, Tasks.woken_task}
pub use Rattle.kahn_job.specs.inner.Works.{IsDelivered, IsJob, Work, width_of}
pub use Rattle.kahn_streams.specs.{Answers.is_output, Inputs.Lists, Inputs.inputs_of, declared.fault.RunFault.RunFault}
pub use Rattle.kahn_streams.specs.Network.{Actual, Hands, Schema, Reads, Writes, actual_at, instance_at, network_of, role_at}
pub use Rattle.kahn_streams.specs.declared.tree.{Program.Program, Role.TheVariants.Input}
