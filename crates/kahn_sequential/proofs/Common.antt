-- The names of the crates below and of this crate's definitions that proofs cite, passed on from one place.
pub use Rattle.kahn_code.proofs.Lists.{at_last, found_in, one_first, own_of, sent_stands, stand_in, kept_grown}
pub use Rattle.kahn_code.proofs.Poured.{poured_at, poured_grown, poured_length}
pub use Rattle.kahn_code.proofs.Queued.{given_zero, set_each, set_here, taken_zero}
pub use Rattle.kahn_code.proofs.Readers.{driven, joins_within}
pub use Rattle.kahn_code.specs.Cells.{AllStand, AreKeptTokens, StoodBy, View, exec_on, is_streamed, sent_on}
pub use Rattle.kahn_code.specs.Lines.{AreFirst, AreQueued, HasPoured, IsPoured, Joins, actual_here, given_of, next_at, place_at, queue_of, route_of, taken_of, waiting_of, Waiting, Lines}
pub use Rattle.kahn_code.specs.Progress.{IsPause, AreCounts, IsAt, IsStill, CellView, site_of, told_view}
pub use Rattle.kahn_code.specs.Standing.{LeavesOthers, Site, count, tokens}
pub use Rattle.kahn_code.specs.declared.{cell.Kept.Kept, progress.Pause.Pause}
pub use Rattle.kahn_code.specs.inner.Gone.{Gone, kept_behind, nothing_gone}
pub use Rattle.kahn_code.specs.inner.Tapped.{HasForgotten, Tapped, regrown_tap}
pub use Rattle.kahn_streams.proofs.By_number.{mapped_at, there, mapped}
pub use Rattle.kahn_streams.specs.declared.plan.Plan.{Plan}
pub use Rattle.kahn_code.specs.inner.Opening.{IsOpening}
pub use Rattle.kahn_sequential.specs.Flows.{AreNew, Flowing, HasLetGo, HasPouredIn, IsRunOn, IsStale}
pub use Rattle.kahn_sequential.specs.HeldRuns.{AreCalls, GoesOn, HeldRun, IsAnswerOf, IsCall, IsLineOf, IsRightSoFar, IsUnresumed, SaysNoLess, Seen, given_so_far, last_of, seen_at, seen_events, seen_of, so_far, unseen, writing}
pub use Rattle.kahn_sequential.specs.declared.{flow.HeldFault.HeldFault, rounds.Round.Round, taps.NumberRange.NumberRange, rounds.PartEnd.PartEnd, taps.Woken.Woken}
pub use Rattle.kahn_sequential.specs.inner.Bench.{AreEnds, AreStreams, HasEndIn, HasRunCell, IsConcluded, IsLast, IsPaused, IsVerdict, LacksMemory, PausedAt, RunState, all_events, events_at, view_events}
pub use Rattle.kahn_sequential.specs.inner.FlowBench.{AreLent, IsFlowOf, flow_of, let_go_by, let_go_of, run_of_bench, IsPartEnd}
pub use Rattle.kahn_sequential.specs.inner.Gathered.{IsFrom, IsGiven, IsOutcomeOf, TookAll, TookNoMore, no_view, view_at}
pub use Rattle.kahn_sequential.specs.inner.Parts.{AreEnded, HaveRisen, run_with}
pub use Rattle.kahn_sequential.specs.inner.Streams.{AreAllGiven, AreLists, AreNamed, HaveChanged, IsBegun, IsDeclared, IsFilled, IsFilledStream, IsOpenStream, KeepsOtherLines, OpensWith, kept_in, kept_lists, printed_in, printed_list}
pub use Rattle.kahn_sequential.specs.inner.Workbench.{AllStandBy, AreKeptOf, AreOpen, AreOpeningCells, AreStreamsReady, AreWhole, HasAdvanced, HasEmptied, HasTakenIn, HasTakenTurn, IsMarked, HasWorked, IsInRound, IsLaid, IsLeft, IsRightAlone, IsSeated, Marked, MayRun, StandsAsTold, Table, actual_count, gone_in, parameter_count, sight_of, table_of, told_in, turn_of, vacant_of, weight, HasVisited, HasSpent, IsSameTap, IsSpent, IsSpentBy, IsSpentTap}
pub use Rattle.kahn_streams.proofs.Dry.{dry_reads}
pub use Rattle.kahn_streams.proofs.Entered.{none_of}
pub use Rattle.kahn_streams.proofs.Fed.{meant_input}
pub use Rattle.kahn_streams.proofs.Finished.{determined, inputs_grow, settled, unrolled}
pub use Rattle.kahn_streams.proofs.Framed.{Begins, Stays, and_more, begins_nil, dry_play, frame_play, grows_play, put_more, widened}
pub use Rattle.kahn_streams.proofs.Fuel.{play_alike}
pub use Rattle.kahn_streams.proofs.Handed.{bytes_self, bytes_true}
pub use Rattle.kahn_streams.proofs.Proved.{Feeds, chain, exec_alike, feeds, fits_all, iterates_rise, one_value, prefix_get, prefix_refl, prefix_trans, script_at, values_append}
pub use Rattle.kahn_streams.proofs.Runs.{cut_is_full, play_on, play_taken, ran}
pub use Rattle.kahn_streams.proofs.Sourced.{handed_within, reads, reads_listed, writes, inputs}
pub use Rattle.kahn_streams.specs.Answers.{AreBegun, AreOne, AreRight, HasStream, IsCutShort, IsDryOn, IsEnd, IsInRange, IsOutcome, IsRight, IsUndeclared, IsWaiting, IsWatched, IsWithinBound, Settles, channel_lines, end_events, is_output, is_watched, print_lines, stream_line, stream_lines, values_of}
pub use Rattle.kahn_streams.specs.Feeds.{IsMeant}
pub use Rattle.kahn_streams.specs.Inputs.{Entry, Lists, channel_of, inputs_of, most_values, Holds}
pub use Rattle.kahn_streams.specs.Laws.{IsQuiet, IsSettled}
pub use Rattle.kahn_streams.specs.Meaning.{Store}
pub use Rattle.kahn_streams.specs.Network.{Actual, Given, Hands, Node, Schema, Nobody, Reads, Source, Writes, Written, actual_at, any_written, channel_names, channel_source, first_writer, idle, instance_at, is_written, network_of, role_at, source_by, IsOnly, IsReader, IsServed, IsWithin, IsWriter}
pub use Rattle.kahn_streams.specs.Prints.{declaration_prints, process_prints}
pub use Rattle.kahn_streams.specs.Script.{Cut, Dry, Fail, Fault, Give, Got, Reached, Rest, Script, Sends, Tapes, Turns, play, wait_at, ScriptOutcome}
pub use Rattle.kahn_streams.specs.Solution.{AreInputsExtended, Ending, HasEnd, HasSize, HasSizes, Histories, Inputs, IsPrefix, IsWhole, Stands, ending, exec_at, fed, goes_to, input_list, iterate, none_left, one_more, opening, out, source, tapes_of, values_at, tape_of}
pub use Rattle.kahn_streams.specs.Steps.{RanBy, Step, and_then, empty, halted, since, values_taken, sends_of}
pub use Rattle.kahn_streams.specs.Syntax.{Number, prints_in}
pub use Rattle.kahn_streams.specs.Tokens.{IsOwn, token_value}
pub use Rattle.kahn_streams.specs.View.{Scope, place_of}
pub use Rattle.kahn_streams.specs.Wires.{process_at}
pub use Rattle.kahn_streams.specs.Wiring.{IsWellWired}
pub use Rattle.kahn_streams.specs.declared.{answer.Answer.Answer, answer.Outcome.TheVariants.Ended, answer.Outcome.TheVariants.Faulted, answer.Outcome.TheVariants.More, answer.Stream.Stream, answer.Verdict.Verdict, answer.Verdict.TheVariants.Bound, answer.Verdict.TheVariants.Finished, answer.Verdict.TheVariants.Memory, sides.Side.Side, token.Token.Token, tree.Declaration.Declaration, tree.Kind.TheVariants.Integer, tree.Process.Process, tree.Program.Program, tree.Role.Role, tree.Role.TheVariants.Inner, tree.Role.TheVariants.Input, tree.Role.TheVariants.Output, value.Line.Line, value.Line.TheVariants.Channel, value.Line.TheVariants.Print, value.Value.Value, answer.End.End, answer.Outcome.Outcome, answer.Outcome.TheVariants.Waits}
pub use Rattle.kahn_streams.specs.inner.Sources.{IsFed}
pub use Rattle.std.proofs.Math.Nat.{le-max_left, le-max_right}
pub use Rattle.std.proofs.Math.Seq.{map-set_same, take-suc}
pub use Rattle.std.proofs.lemmas.Bool.{cases_eq, cases_lt}
pub use Rattle.std.proofs.lemmas.Bool.Decides.{nat_tests}
pub use Rattle.std.proofs.lemmas.List.Folds.{fold-map}
pub use Rattle.std.proofs.lemmas.List.Sums.{get_or-le-sum_by, sum_by-cons, sum_by-set}
pub use Rattle.std.proofs.lemmas.List.{get_or-map, get_or-set_other, get_or_past, length-map, map-append, map-set, replicate-append-replicate, take_all, take_at, drop_all, length-append, length-set}
pub use Rattle.std.proofs.lemmas.Option.{get_or_from_slice_get, none-some, same_Some, slice_get-get_or, slice_get_read, slice_get_within}
pub use Rattle.std.proofs.lemmas.Result.{err_from_is_err_and}
pub use Rattle.std.specs.Option.{SomeIff}
pub use Rattle.kahn_sequential.specs.inner.Noted.{AreAtRest, AreNoted, AreNotedBut, AreSpent, AreSpentBut, HasWoken, IsAtRest, IsOnlyReader, IsReaderOf, IsReadyBehind, IsReadyBy, IsReadyByFirst, IsTakenFrom, IsWoken}
pub use Rattle.kahn_sequential.specs.inner.Numbers.{HasNumber, HoldNumbers, HoldNumbersTo, IsNumberOf, is_in}
pub use Rattle.kahn_sequential.specs.inner.Recording.{AreCountsOf, AreOpenChannels, AreRecorded, AreRecordedOf, AreTokensOf, AreTurnShortOf, HasGiven, HasOthers, HasRecorded, IsCountOf, IsKeptAlone, IsRecorded, IsRecording, IsSentOn, IsTurnShort, StoodIn, TakesTurns}
pub use Rattle.std.proofs.Common.{⊎_elim, Bool, List, None, Option, Some, [], add-one, ap, append-nil, append_assoc, arith, bytes_eq, cond, drop, drop-cons, eq-eqb, eqb-true, false, if◌then◌else◌, inl, inr, le_of_suc-le-suc, le_refl, le_trans, length, map, max, min, not-suc-le-zero, pos, refl, replicate, rules, slice_get, slice_index_or, slice_set, subst, suc, suc-le-suc, sum_by, sym, take, true, true≢false, vec_capacity, zero, ℕ, ◌++◌, ◌+◌, ◌-◌, ◌<◌, ◌==◌, ◌^◌, ◌||◌, ◌↔◌, ◌∙◌, ◌∷◌, ◌≡◌, ◌≢◌, ◌≤◌, ◌⊎◌}
pub use mathlib.Core.Path.{fun_ext}
pub use Rattle.std.specs.declared.{alloc.Global.Global, vec.Vec.Vec}
