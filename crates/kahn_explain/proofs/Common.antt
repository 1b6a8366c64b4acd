-- The names of the crates below and of this crate's definitions that proofs cite, passed on from one place.
pub use Rattle.kahn_explain.specs.Histories.{HasCounts, IsHistory, IsRecord, IsUntraced, all_channels}
pub use Rattle.kahn_explain.specs.Needing.{AreFirstEnds, AreRows, IsAskable, IsFirstNeeding, IsLineNamed, IsPlaceGiven, IsPlaceWord, IsReply, NeedsNot}
pub use Rattle.kahn_explain.specs.Running.{AreNotes, AreNotesBefore, AreNotesOfUnrun, HasComeTo, HasExplained, HasBrokenOff, HasLooked, HasReplied, IsSheet, Replies, IsInputless, IsLookedAt, IsToldOf}
pub use Rattle.kahn_explain.specs.Untaken.{IsFullest, IsToldFor, left_of, put_line}
pub use Rattle.kahn_explain.specs.inner.Columns.{AreAllHistories, AreColumns, AreOfChannels, HasLine, IsAny, IsHistoryOf, print_of, print_part}
pub use Rattle.kahn_explain.specs.inner.Told.{EndsSearch, HasPutNeeds, HasPutReply, IsAskedFor, IsNothingAsked, IsReplyFor, IsTableAsked, notes_for}
pub use Rattle.kahn_needs.specs.Finding.{AreNeedsFound, IsNetworkLine, IsSeeking, cut_told, of_input}
pub use Rattle.kahn_sequential.specs.Recordings.{IsCountedRun, IsHistoryIn, IsRecordedRun}
pub use Rattle.kahn_streams.specs.Answers.{HasStream, IsRight, IsRightRun, IsUnrun, channel_lines, is_output, is_watched, print_lines, stream_line, stream_lines, values_of}
pub use Rattle.kahn_streams.specs.Inputs.{IsNoName, Lists, inputs_of}
pub use Rattle.kahn_streams.specs.Network.{Given, Node, Schema, channels_of, network_of, role_at}
pub use Rattle.kahn_streams.specs.Solution.{Inputs, IsPrefix, IsWhole, Stands, iterate, source}
pub use Rattle.kahn_texts.specs.Formats.{IsInputTextFault, IsLine, StandsFor, channel_count, instance_count}
pub use Rattle.kahn_explanation.proofs.Parts.{are_allowed, broke_off, went_out}
pub use Rattle.kahn_explanation.proofs.Right_ends.{answered}
pub use Rattle.kahn_explanation.specs.inner.Told.{HasRefused, HasWritten, IsAdmitted}
pub use Rattle.std.proofs.Common.{All, Bool, Err, List, None, Ok, Option, Result, Some, [], add-one, ap, append-nil, append_assoc, ap₂, arith, false, flat_map, get_or, if◌then◌else◌, inl, inr, length, map, refl, rules, slice_get, slice_index_or, string_bytes, subst, suc, sym, take, true, zero, ℕ, ◌++◌, ◌+◌, ◌<◌, ◌||◌, ◌∙◌, ◌∷◌, ◌≡◌, ◌≤◌, ◌⊎◌}
pub use Rattle.std.proofs.KnownBytes.{Appends-nil, Appends-trans}
pub use Rattle.std.proofs.lemmas.Bool.{cases_lt, iff_false}
pub use Rattle.std.proofs.lemmas.Grind.{common_steps, flat_map-append}
pub use Rattle.std.proofs.lemmas.List.{length-map, map-append}
pub use Rattle.std.proofs.lemmas.List.Elements.{All-append, All-push}
pub use Rattle.std.proofs.lemmas.Option.{slice_get-get_or, slice_get_read, slice_get_within}
pub use Rattle.std.proofs.lemmas.Result.{IfOk-weaker}
pub use Rattle.std.specs.Io.KnownBytes.{Appends}
pub use Rattle.std.specs.Prelude.{MatchResult, not, ◌↔◌}
pub use Rattle.kahn_fault.specs.declared.{work.WorkFault.WorkFault, work.WorkFault.TheVariants.Check, work.WorkFault.TheVariants.Run, work.WorkFault.TheVariants.Syntax, work.WorkFault.TheVariants.Text, work.WorkFault.TheVariants.Write}
pub use Rattle.kahn_sequential.specs.declared.{counted.Counted.Counted, counted.Recorded.Recorded}
pub use Rattle.kahn_streams.specs.declared.{answer.Answer.Answer, answer.Stream.Stream, config.Config.Config, fault.RunFault.TheVariants.NoMemory, tree.Kind.Kind, tree.Program.Program, tree.Role.Role, tree.Role.TheVariants.Inner, tree.Role.TheVariants.Output, value.Line.Line, value.Line.TheVariants.Channel, value.Line.TheVariants.Print, value.Value.Value}
pub use Rattle.kahn_explanation.specs.declared.{explaining.Admitted.Admitted, explaining.Came.Came, explaining.Came.TheVariants.Refused, explaining.Came.TheVariants.Stopped}
pub use Rattle.kahn_explain.specs.declared.running.Request.{Request}
