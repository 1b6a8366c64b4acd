-- The names of specs and of the crates below that several proofs cite, passed on from one place.
pub use Rattle.std.proofs.Common.{All, Bool, Err, List, None, Ok, OnErr, OnOk, Option, Result, Some, [], ap, append-nil, arith, eqb-true, false, if◌then◌else◌, inl, inr, length, map, option_to_list, refl, reverse, rules, slice_get, slice_index, slice_index_or, slice_set, subst, suc, sum_by, sym, true, true≢false, zero, ℕ, ⊎_elim, ◌%◌, ◌*◌, ◌++◌, ◌+◌, ◌-◌, ◌<◌, ◌==◌, ◌^◌, ◌||◌, ◌∙◌, ◌∷◌, ◌≡◌, ◌≢◌, ◌↔◌, ◌≤◌, ◌⊎◌}
pub use Rattle.std.proofs.Math.Nat.{add-mod_left, mod-eq_of_lt, mod-lt}
pub use Rattle.std.proofs.lemmas.List.{append_assoc, get_or-map, get_or-set_other, get_or-set_same, get_or_append_left, length-append, length-map, map-append, reverse-append}
pub use Rattle.std.proofs.lemmas.List.Elements.{All-map, All-push}
pub use Rattle.std.proofs.lemmas.List.Sums.{sum_by-cons, sum_by_push, get_or-le-sum_by}
pub use Rattle.std.proofs.lemmas.Option.{none-some, same_Some, slice_get-map, slice_get_read, slice_get_within}
pub use Rattle.std.specs.{List.position, Option.option_map, Vec.vec_capacity}
pub use denote.Param.Send.{FieldsAt, IsSend, IsSync, SyncAt, array_sync_at, recorded_sync, sendable, shr_sync, struct_sync, struct_sync_at}
pub use lib.ListN.{get_elem?}
pub use mathlib.Core.Logic.{dite}
pub use mathlib.Core.Option.{some, some-injective, some-ne-none}
pub use native.Mathlib.Decide.{ℕ_discrete}
pub use Rattle.kahn_board.proofs.{Sole.no_writer, Sole.nothing, Sole.sole_first, Sole.sole_reader, Sole.sole_writer, Sums.is_there}
pub use Rattle.kahn_board.specs.{Calls.Becomes, Calls.LooksAt, Calls.Swaps, Opening.Opens, Plays.Sat, Plays.SeesMore, Plays.after_reporting, Wires.Wires}
pub use Rattle.kahn_board.specs.Rule.{belongs, dealt, events_told, holds, wired, below, spent}
unfoldable pub use Rattle.kahn_board.specs.Wires.{wires}
pub use Rattle.kahn_board.specs.declared.{seat.Seat.Seat, board.Terms.Terms, view.SeatView.SeatView}
pub use Rattle.kahn_board.specs.inner.Turn.{Fits, HasPublished, HoldsInTurn, InTurn, IsBetween, Knows, RestsWith, IsDoneAt, SitsAt, parts_of, raised_of}
pub use Rattle.kahn_code.proofs.Readers.{driven, joins_parameter, joins_within, reads_once}
pub use Rattle.kahn_code.specs.{Lines.Joins, Lines.route_of, Progress.AreCounts, Standing.count}
pub use Rattle.kahn_job.specs.inner.Berths.{Serves, end_at, AreJoinedOn}
pub use Rattle.kahn_job.specs.inner.Tasks.{Continues, HasStanding, IsTrueOf, Tasked, standing_after, woken_task}
pub use Rattle.kahn_job.specs.inner.Works.{IsDelivered, IsJob, Work}
pub use Rattle.kahn_streams.specs.{Answers.is_output, Inputs.Lists, Inputs.inputs_of, Wiring.IsWellWired, Wiring.side_at, declared.sides.Side.Side, declared.tree.Program.Program}
pub use Rattle.kahn_streams.specs.Network.{Actual, Given, Hands, IsOnly, IsWriter, Schema, Reads, Writes, Written, actual_at, channel_source, instance_at, network_of, role_at}
pub use Rattle.kahn_crew.specs.declared.opening.Run.{Run}
pub use Rattle.kahn_crew.specs.inner.Turns.{CanRest, IsDue, IsSetDown, IsSameWorker, HasPicked, HasTask, Heeds, IsAtWork, IsTaskIn, RaisesAsWanted, SitsWith, StandsStill, WasNotReady, terms_of, HasCause, HasGone, HasSeat, WantsNone, seat_of, table_id_of}
pub use Rattle.kahn_crew.specs.inner.Tasks.{AreReadyTasks, HasBegun, IsNumber, IsReadyTask, FitTogether, IsTaskOf, AgreesWith, IsLater, IsPublished, count_on, handed_to_task, is_channel, read_by, reads_at, task_rows, told_tale, waits_on, work_of, writes_at, written_by, wrote_by}
pub use Rattle.kahn_board.specs.Opening.{ClosesBoard}
pub use Rattle.kahn_board.specs.Wires.{FlushedAll, flushed_of, second_of}
pub use Rattle.kahn_code.specs.Progress.{IsPause}
pub use Rattle.kahn_crew.specs.declared.{worker.Worker.Worker}
