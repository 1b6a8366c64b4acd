-- The names of the crates below and of this crate's definitions that proofs cite, passed on from one place.
pub use Rattle.kahn_live.specs.Course.{AreLikeTold, HasMissed, HasSent, HasWaited, IsAloneMet, IsAnswerTold, IsBrokenOff, IsComplaint, IsFaultPut, IsLineMet, IsNewFault, IsPartMet, IsPartTold, IsRefusalTold, IsRefused, IsToldBy, IsVerdictTold, IsWriteFault, LiveTelling, Point, WasAnswered, WasFed, WasMet, WasSaid, WasTold, first_line, is_verdict_new, no_memory, point_of, telling_of}
pub use Rattle.kahn_live.specs.Histories.{HasHistories, IsShown}
pub use Rattle.kahn_live.specs.InputMet.{AreAllMet, AreCellsFed, AreCellsMet, AreEachMet, AreFed, AreFedIn, AreFedUpTo, AreLastTried, AreRead, IsAloneTold, IsAnyMet, IsCome, IsCutOff, IsFirstPart, IsFirstUnmeant, IsLastRefused, IsNextCome, IsNextMet, IsNoneCome, IsReadBy, IsReadIn, IsReadMet, IsRowBroken, IsRowRun, IsSource, IsStep, IsStoppedAt, IsTornOff, is_idle}
pub use Rattle.kahn_live.specs.Lines.{CutsLine, IsNextLine, fed_text, most_kept, unmarked}
pub use Rattle.kahn_live.specs.Rows.{AreCells, AreMeant, AreNumbered, AreRowCells, HaveStreams, IsBadRow, IsRowFront, bare_of, behind_word, bytes_in, first_word, from_word, is_row_gap, is_wordless, row_line, row_names}
pub use Rattle.kahn_live.specs.Running.{HasRunText, HasServed, HasServedAll, IsEndWanted, IsInForm, IsLeftTold, IsSetUp, Output, Watches, output_of, reached_status}
pub use Rattle.kahn_sequential.specs.HeldRuns.{HeldRun, IsRightSoFar, so_far}
pub use Rattle.kahn_session.specs.Forms.{HasLetGoAt, are_rows, next_of, row_count}
pub use Rattle.kahn_session.specs.Live.{HasFedLine, HasOpened, HasRunPart, HasVerdict, IsFaulty, IsFirstInput, IsHearing, IsMeantLine, IsPartShown, IsRinged, IsTakenLine, IsUnfedBy, Live, breaks, pace_after, pace_of, stream_of}
pub use Rattle.kahn_session.specs.Refusals.{at_end_number, origin, refused_origin, said_text, take_words}
pub use Rattle.kahn_streams.specs.Written.{AppendsFront, Writes}
pub use Rattle.kahn_texts.proofs.Scanned.{stop_of}
pub use Rattle.std.proofs.Common.{All, Bool, Err, IfOk, IfSome, IsErr, List, MatchResult, None, Ok, Option, Result, Some, [], ap, append-nil, append_assoc, ap₂, arith, cond, drop, eq-eqb, eqb, eqb-true, false, get_or, if◌then◌else◌, inl, inr, is_err, is_ok, length, length-append, length-take, map, min, not, refl, rules, slice_get, slice_index_or, subst, suc, sym, take, take_all, true, true≢false, vec_items, zero, ℕ, ⊎_elim, ◌++◌, ◌+◌, ◌-◌, ◌<◌, ◌∙◌, ◌∷◌, ◌≡◌, ◌≢◌, ◌≤◌}
pub use Rattle.std.proofs.KnownBytes.{Consumes-kept, Consumes-nil, Consumes-trans, Keeps-refl, Keeps-trans}
pub use Rattle.std.proofs.lemmas.Grind.{common_steps}
pub use Rattle.std.proofs.lemmas.List.{length-drop, take_more}
pub use Rattle.std.proofs.lemmas.List.Elements.{All-append, All-cons, All-nil}
pub use Rattle.std.proofs.lemmas.Result.{err_from_is_err_and}
pub use Rattle.std.specs.Io.BufRead.{DropsThrough, FillKeeps, drop_through}
pub use Rattle.std.specs.Io.Buffered.{reader_buffer, reader_capacity, reader_inner, reader_remaining}
pub use Rattle.std.specs.Io.KnownBytes.{Appends, Consumes, IsAtEnd, Keeps, ReadConsumes, WriteAppends, prepend_known}
pub use Rattle.std.specs.List.{list_any, position_or_len}
pub use Rattle.std.specs.Option.{unwrap_or}
pub use Rattle.std.specs.Prelude.{codes, is_some, nat_lt, option_copied, string_bytes, ◌&&◌, ◌==◌, ◌||◌}
pub use Rattle.kahn_fault.specs.declared.{fault.Fault.Fault}
pub use Rattle.kahn_line.specs.declared.{live.PlainNames.PlainNames}
pub use Rattle.kahn_live.specs.declared.{lines.Next.Next, lines.Next.TheVariants.End, lines.Next.TheVariants.Failed, lines.Next.TheVariants.Line, lines.Next.TheVariants.NoMemory}
pub use Rattle.kahn_session.specs.declared.{refusal.TakeFault.TakeFault}
pub use Rattle.kahn_streams.specs.declared.{answer.Verdict.Verdict, config.Config.Config, tree.Program.Program}
pub use Rattle.std.specs.declared.{alloc.Global.Global, string.String.String, vec.Vec.Vec}
