-- The names of the crates below and of this crate's definitions that proofs cite, passed on from one place.
pub use Rattle.kahn_code.proofs.Lists.{found_in, kept_none, none_first, one_first, sent_stands, stand_in}
pub use Rattle.kahn_code.proofs.Queued.{given_zero, set_each, set_here, taken_zero}
pub use Rattle.kahn_code.proofs.Stand.{eqb_refl}
pub use Rattle.kahn_code.specs.Cells.{AllStand, AreKeptTokens, StoodBy, View, exec_on, is_streamed, sent_on}
pub use Rattle.kahn_code.specs.Lines.{AreFirst, AreQueued, Lines, actual_here, given_of, next_at, place_at, queue_of, taken_of, waiting_of}
pub use Rattle.kahn_code.specs.Progress.{AreCounts, CellView, IsAt, IsPause, Paused, site_of, told_view}
pub use Rattle.kahn_code.specs.Standing.{LeavesOthers, Site, count, tokens}
pub use Rattle.kahn_needs.specs.Finding.{NeedsCounts, AreNeedsFound, AreTapes, IsFoundBy, IsMissing, IsNetworkLine, IsNowhere, IsLastEnd, StandsBefore, LacksOne, LeadsTo, MeetsRing, Reaches, Seeking, WaitsFor, cut_told, of_input, onward, stays, events_total}
pub use Rattle.kahn_needs.specs.Laws.{AreDone, AreEnough, AreExact, AreInOrder, AreOneCut, AreParts, AreRunsNeeds, AreSameNeeds, AreTight, GoBack, HaveNeeds, IsMadeIn, IsShortest, IsTakenBy, IsTight}
pub use Rattle.kahn_needs.specs.Needs.{AreNeeds, Cut, IsCutWithin, Suffices, first_values, held_in}
pub use Rattle.kahn_needs.specs.inner.Bench.{AreSeatsOf, AreUnmoved, HasActed, HasItsSeat, HaveNotMoved, HaveSeats, IsStopped, IsTally, IsUnmoved, Seats, Stood, Tallied, cell_events, events_seen, seats_of}
pub use Rattle.kahn_needs.specs.inner.Finding.{AreDemands, AreOfDone, HasDoneAll, IsInNoCut, IsLed, Waits as WaitsIn, AreForced, HasCome, HasSentSoMany, HasValue, HoldsAt, HoldsIn, IsDemand, IsNoLater, IsPausedAt, IsSearchState, IsSooner, IsWaitChain, IsWanted, seeking_of}
pub use Rattle.kahn_streams.proofs.By_number.{mapped, there, within}
pub use Rattle.kahn_streams.proofs.Finished.{counted, inputs_grow}
pub use Rattle.kahn_streams.proofs.Framed.{and_more, grows_play}
pub use Rattle.kahn_streams.proofs.Proved.{chain, exec_alike, feeds, one_value, out_grows, prefix_get, prefix_refl, prefix_trans, script_at, values_append}
pub use Rattle.kahn_streams.proofs.Runs.{play_on, play_zero, ran}
pub use Rattle.kahn_streams.proofs.Sourced.{outputs, reads, reads_listed, writes}
pub use Rattle.kahn_streams.specs.Answers.{AreRight, is_output, is_watched}
pub use Rattle.kahn_streams.specs.Inputs.{Lists, inputs_of}
pub use Rattle.kahn_streams.specs.Meaning.{Store}
pub use Rattle.kahn_streams.specs.Network.{Actual, Given, Hands, IsServed, IsWriter, Schema, Nobody, Reads, Source, Writes, Written, actual_at, channel_source, idle, instance_at, network_of, role_at}
pub use Rattle.kahn_streams.specs.Script.{Dry, Fail, Fault, Give, Got, Port, Reached, Script, ScriptOutcome, Tapes, Waits, play}
pub use Rattle.kahn_streams.specs.Solution.{AreInputsExtended, Ended, Ending, Faulted, Histories, Inputs, IsExtended, IsPrefix, Stands, Waiting, ending, exec_at, fed, goes_to, input_list, iterate, out, source, tape_of, tapes_of, values_at}
pub use Rattle.kahn_streams.specs.Steps.{Follows, RanBy, Sent, Step, StoppedAt, Took, Turned, and_then, empty, here, sends_of, sent, since, took, turned, values_taken}
pub use Rattle.kahn_streams.specs.Syntax.{Number}
pub use Rattle.kahn_streams.specs.inner.Sources.{IsFed}
pub use Rattle.std.proofs.Common.{Bool, List, None, Option, Some, [], ap, arith, eq-or-lt_of_le, eqb-true, false, get_or, if◌then◌else◌, inl, inr, le_of_suc-le-suc, le_refl, le_trans, length, length-append, length-set, length-take, map, max, not-suc-le-zero, pos, refl, replicate, slice_get, slice_index_or, slice_set, subst, suc, sym, take, true, zero, ℕ, ◌++◌, ◌+◌, ◌<◌, ◌==◌, ◌^◌, ◌||◌, ◌↔◌, ◌∙◌, ◌∷◌, ◌≡◌, ◌≤◌, ◌⊎◌}
pub use Rattle.std.proofs.Math.Nat.{le-max_left, le-max_right}
pub use Rattle.std.proofs.lemmas.Bool.{cases_eq, cases_lt, or_right}
pub use Rattle.std.proofs.lemmas.List.{get_or_default, get_or-set_other, get_or-set_same, get_or_past, length-map, length-replicate, map-set, take-append-le}
pub use Rattle.std.proofs.lemmas.Option.{get_or_from_slice_get, same_Some, slice_get_past, slice_get-get_or, slice_get_read, slice_get_within}
pub use mathlib.Core.Path.{fun_ext}
pub use Rattle.kahn_code.specs.declared.{progress.Pause.Pause}
pub use Rattle.kahn_streams.specs.declared.{sides.Side.Side, token.Token.Token, tree.Program.Program, tree.Role.TheVariants.Inner, tree.Role.TheVariants.Input, tree.Role.TheVariants.Output, value.Failure.Failure, value.Line.Line, value.Line.TheVariants.Channel, value.Line.TheVariants.Print, value.Value.Value}
