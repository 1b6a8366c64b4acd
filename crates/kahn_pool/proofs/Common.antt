-- The names of the crates below and of this crate's definitions that proofs cite, passed on from one place.
pub use Rattle.kahn_board.specs.Rule.{events_told}
pub use Rattle.kahn_code.proofs.Lists.{at_last, stand_in}
pub use Rattle.kahn_code.proofs.Readers.{driven, joins_parameter, joins_within}
pub use Rattle.kahn_code.specs.Cells.{AllStand, StoodBy, View, exec_on, is_streamed}
pub use Rattle.kahn_code.specs.Lines.{AreQueued, Joins, given_of}
pub use Rattle.kahn_code.specs.Progress.{IsPause, Paused, AreCounts, CellView, told_view}
pub use Rattle.kahn_code.specs.Standing.{count}
pub use Rattle.kahn_code.specs.declared.{cell.Kept.Kept, progress.Pause.Pause}
pub use Rattle.kahn_code.specs.inner.Gone.{Gone, nothing_gone}
pub use Rattle.kahn_code.specs.inner.Tapped.{Tapped}
pub use Rattle.kahn_crew.proofs.Ended.{all_told}
pub use Rattle.kahn_crew.proofs.Started.{at_mapped, woken_ready}
pub use Rattle.kahn_streams.proofs.By_number.{mapped_at}
pub use Rattle.kahn_crew.specs.declared.{crew.Crewing.Crewing, opening.CrewFault.CrewFault, opening.CrewFault.TheVariants.NoMemory, opening.CrewFault.TheVariants.NoThread}
pub use Rattle.kahn_streams.specs.declared.plan.Plan.{Plan}
pub use Rattle.kahn_crew.specs.inner.Planned.{IsAsConfigured, IsCrew}
pub use Rattle.kahn_crew.specs.inner.Left.{AreAll, AreUntouched, HaveGone, IsLack, IsOver, IsQuietTask, task_events}
pub use Rattle.kahn_crew.specs.inner.Tasks.{AreReadyTasks, handed_to_task, is_over, task_rows, told_tale, work_of}
pub use Rattle.kahn_job.proofs.Berthed.{past_none}
pub use Rattle.kahn_job.proofs.Idles.{all_idle, idle_grown, idle_met, idle_still, row_there, settled_rest, AreJoinedJobs}
pub use Rattle.kahn_job.proofs.Settles.{same_lanes}
pub use Rattle.kahn_job.specs.declared.{task.TaskStanding.TaskStanding}
pub use Rattle.kahn_job.specs.inner.Berths.{IsWithinInput, Serves, end_at, AreBehindOn, AreJoinedOn, end_in}
pub use Rattle.kahn_job.specs.inner.Ends.{IsBehind, IsReady, TaskEnd}
pub use Rattle.kahn_job.specs.inner.Idles.{HaveFewTokens, AreIdle, AreJobsAt, HaveSettled, IsIdle, AreSamePlaces, HaveMet, StandsByQueue, cells_of, rows_of}
pub use Rattle.kahn_job.specs.inner.Tasks.{Continues, IsTrueOf, Tasked, standing_after, woken_task}
pub use Rattle.kahn_job.specs.inner.Ways.{no_end}
pub use Rattle.kahn_job.specs.inner.Works.{IsJob, Work, width_of}
pub use Rattle.kahn_sequential.specs.HeldRuns.{GoesOn, HasFed, HasResumed, HeldRun, IsAnswerOf, IsLineOf, IsResumed, IsRightSoFar, IsUnfed, Seen, given_so_far, seen_at, seen_events, seen_of, so_far, unseen}
pub use Rattle.kahn_sequential.specs.declared.{rounds.Round.Round}
pub use Rattle.kahn_pool.specs.declared.{held.Stopped.Stopped, plan.RunPart.RunPart}
pub use Rattle.kahn_sequential.specs.inner.Bench.{AreStreams, HasEndIn, IsConcluded, IsVerdict, RunState, all_events, events_at, view_events}
pub use Rattle.kahn_sequential.specs.inner.Gathered.{IsFrom, IsGiven, IsOutcomeOf, TookNoMore, no_view, view_at}
pub use Rattle.kahn_sequential.specs.inner.Parts.{AreEnded, HasRisen, HaveRisen}
pub use Rattle.kahn_pool.specs.inner.Holding.{AreHeld, AreHeldBy, HasEnded, HasStopped, HasStoppedPart, IsHolding, cell_alone, cell_for, held_state, planned, run_of, IsRoomFor}
pub use Rattle.kahn_pool.specs.inner.Rested.{AreEndsOfTasks, AreTold, IsDryOf, IsEndOf, IsSaid, IsSettledTask, IsToldAs, SettlesTo, cell_of}
pub use Rattle.kahn_sequential.specs.inner.Streams.{AreAllGiven, AreLists, HaveChanged}
pub use Rattle.kahn_sequential.specs.inner.Workbench.{AllStandBy, AreKeptOf, AreWhole, IsLaid, IsWide, MayRun, Table, gone_in, seated_with, sight_of, told_in, vacant_of}
pub use Rattle.kahn_streams.proofs.Dry.{dry_reads}
pub use Rattle.kahn_streams.proofs.Entered.{none_of}
pub use Rattle.kahn_streams.proofs.Proved.{prefix_refl, prefix_trans}
pub use Rattle.kahn_streams.proofs.Sourced.{handed_within, reads, reads_listed, writes}
pub use Rattle.kahn_streams.specs.Answers.{IsRight, is_output, stream_lines, IsWatched}
pub use Rattle.kahn_streams.specs.Inputs.{Lists, inputs_of}
pub use Rattle.kahn_streams.specs.Meaning.{Store}
pub use Rattle.kahn_streams.specs.Network.{Actual, Given, IsOnly, IsWriter, Schema, Nobody, Reads, Source, Writes, Written, actual_at, channel_source, idle, instance_at, network_of, role_at, IsServed}
pub use Rattle.kahn_streams.specs.Solution.{AreInputsExtended, Inputs, fed, iterate, out, source}
pub use Rattle.kahn_streams.specs.Tokens.{token_value}
pub use Rattle.kahn_streams.specs.Wiring.{IsWellWired, side_at}
pub use Rattle.kahn_streams.specs.declared.{answer.Answer.Answer, answer.Verdict.Verdict, sides.Side.Side, token.Token.Token, tree.Program.Program, tree.Role.Role, tree.Role.TheVariants.Inner, tree.Role.TheVariants.Input, value.Line.Line, value.Line.TheVariants.Channel, value.Line.TheVariants.Print, value.Value.Value, answer.End.End}
pub use Rattle.kahn_streams.specs.inner.Sources.{IsFed}
pub use Rattle.std.proofs.lemmas.Bool.{cases_lt}
pub use Rattle.std.proofs.lemmas.List.Sums.{get_or-le-sum_by}
pub use Rattle.std.proofs.lemmas.List.{get_or_past, length-map}
pub use Rattle.std.proofs.lemmas.Option.{get_or_from_slice_get, same_Some, slice_get_read, slice_get_past}
pub use Rattle.std.proofs.lemmas.Result.{err_from_is_err_and}
pub use Rattle.kahn_sequential.proofs.Benched.{actual_same, get_map, got, mapped, seated_at, sent_there, taken_there, viewed, within_get}
pub use Rattle.kahn_sequential.proofs.Filled.{are_streams}
pub use Rattle.kahn_sequential.proofs.Giving.{begun_none, input_role}
pub use Rattle.kahn_sequential.proofs.Lists.{ChangedTo, all_changed, map_changed, map_map, next_old, old_item, one_changed, one_of_sum, same_writer, sum_over}
pub use Rattle.kahn_sequential.proofs.Once_written.{input_watched, written_once}
pub use Rattle.kahn_sequential.proofs.Righted.{answer_right, events_seen, none_done, right_with, seen_there, settled_by}
pub use Rattle.std.proofs.Common.{Bool, Err, IsOk, List, None, Ok, Option, Result, Some, [], ap, arith, false, inl, inr, length, length-append, map, refl, replicate, rules, slice_get, slice_index_or, subst, suc, sum_by, sym, take, true, true≢false, vec_capacity, zero, ℕ, ◌++◌, ◌+◌, ◌-◌, ◌<◌, ◌^◌, ◌∙◌, ◌∷◌, ◌≡◌, ◌≤◌, ◌⊎◌}
pub use Rattle.std.specs.Vec.{vec_len}
