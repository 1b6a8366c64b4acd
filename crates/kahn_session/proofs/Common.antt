-- The names of the crates below and of this crate's definitions that proofs cite, passed on from one place.
pub use Rattle.kahn_chain.specs.Chain.{AreStandings, HasRing, stands}
pub use Rattle.kahn_sequential.specs.Flows.{AreNew, Flowing, IsUnpoured, flow_lines}
pub use Rattle.kahn_sequential.specs.HeldRuns.{GoesOn, HasResumed, HeldRun, IsRightSoFar, Seen, seen_at, seen_events, so_far}
pub use Rattle.kahn_session.specs.Forms.{HasLetGoAt, HasLetGoBehind, cell_news, fewest, form_text, is_uneven, let_go_but, news_of, next_of, row_count, row_news, row_stop, rows_news, values_behind, waiting_from}
pub use Rattle.kahn_session.specs.Live.{HasAnswered, HasBroken, HasFedLine, HasRunPart, HasVerdict, IsDeaf, IsDeafNow, IsFedBy, IsFirstFault, IsFirstInput, IsLastText, IsMeantLine, IsNoOther, IsOtherInput, IsTakenLine, IsText, IsUnfedBy, Live, OutBegins, breaks, first_faulted, has_left, is_finished, bears_name, is_other_input, pace_after, waits_on_input}
pub use Rattle.kahn_session.specs.Pace.{IsPart, Pace, events_of, most_bound, part_bound}
pub use Rattle.kahn_session.specs.inner.Kept.{AreStale, kept_values, lines_text}
pub use Rattle.kahn_streams.specs.Feeds.{IsMeantFor, IsNotMeant}
pub use Rattle.kahn_streams.specs.Inputs.{Entry, inputs_of}
pub use Rattle.kahn_streams.specs.Network.{channel_names, network_of, role_at}
pub use Rattle.kahn_streams.specs.Tokens.{token_value}
pub use Rattle.kahn_streams.specs.Written.{AppendsFront, Writes}
pub use Rattle.kahn_texts.proofs.Writing.{fails, goes_on, goes_on_front, stops}
pub use Rattle.kahn_texts.specs.Formats.{HasNoHead, HasNoValues, IsEntry, IsLine, content}
pub use Rattle.kahn_texts.specs.News.{closing_text, joined, more_text, news_text, plain_text}
pub use Rattle.std.proofs.Common.{Bool, Err, List, MatchResult, None, Ok, Option, Result, Some, [], add-one, ap, append-nil, append_assoc, ap₂, arith, drop, false, get_or, if◌then◌else◌, inl, inr, length, map, not, refl, rules, string_bytes, subst, suc, sum_by, sym, true, true≢false, zero, ℕ, ⊎_elim, ◌&&◌, ◌++◌, ◌+◌, ◌-◌, ◌<◌, ◌∙◌, ◌∷◌, ◌≡◌, ◌≤◌, ◌⊎◌}
pub use Rattle.std.proofs.KnownBytes.{Appends-nil, Appends-trans}
pub use Rattle.std.proofs.lemmas.Option.{same_Some, slice_get-get_or}
pub use Rattle.std.specs.Io.KnownBytes.{Appends}
pub use Rattle.std.specs.List.{AllByRecursion, concat, list_any, position}
pub use Rattle.std.specs.Prelude.{MatchOption, codes, min, nat_lt, option_copied, slice_get, slice_index_or, ◌==◌}
pub use Rattle.kahn_streams.specs.declared.{answer.Verdict.Verdict, token.Token.Token, tree.Program.Program, value.Line.Line, value.Line.TheVariants.Channel, value.Value.Value}
pub use Rattle.std.specs.declared.{alloc.Global.Global, vec.Vec.Vec}
