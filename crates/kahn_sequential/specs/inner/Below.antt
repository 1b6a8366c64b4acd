-- Inner. The words of the crates below that clauses and definitions of this crate use, passed on from one place.
pub use Rattle.kahn_code.specs.Cells.{AreKeptTokens, StoodBy, View, exec_on, is_streamed}
pub use Rattle.kahn_code.specs.Lines.{AreQueued, IsPoured, Lines as Queues, Waiting, given_of, place_at, taken_of, waiting_of}
pub use Rattle.kahn_code.specs.{Progress.Paused, Standing.tokens, declared.cell.Kept.Kept, declared.progress.Pause.Pause, inner.Tapped.HasForgotten, inner.Tapped.Tapped}
pub use Rattle.kahn_code.specs.Progress.{AreCounts, IsAt, CellView, told_view}
pub use Rattle.kahn_code.specs.inner.Gone.{Gone, kept_behind, nothing_gone}
pub use Rattle.kahn_streams.specs.declared.plan.Plan.{Plan}
pub use Rattle.kahn_code.specs.inner.Opening.{IsOpening}
pub use Rattle.kahn_streams.specs.Answers.{AreBegun, AreOne, AreRight, HasEndAt, HasStream, IsAllowed, IsCutShort, IsRight, IsUndeclared, IsUnrun, IsWatched, Settles, channel_lines, is_output, is_watched, print_lines, stream_line, stream_lines, values_of}
pub use Rattle.kahn_streams.specs.Feeds.{IsEntryFed, IsMeant, IsNotMeant, IsUnwelcome, total_after}
pub use Rattle.kahn_streams.specs.Inputs.{Entry, Holds, Lists, Names, channel_of, inputs_of, most_values}
pub use Rattle.kahn_streams.specs.{Meaning.Store, Prints.declaration_prints, Script.Cut, Script.Dry, Syntax.prints_in, Tokens.IsOf, Tokens.IsOwn, Tokens.token_value, Wiring.IsWellWired}
pub use Rattle.kahn_streams.specs.Network.{Actual, Given, IsReader, IsWithin, IsWriter, Schema, Nobody, Reads, Source, Writes, Written, actual_at, instance_at, is_written, network_of, role_at}
pub use Rattle.kahn_streams.specs.Solution.{AreInputsExtended, HasSize, Inputs, IsPrefix, IsWhole, ending, exec_at, source}
pub use Rattle.kahn_streams.specs.declared.{answer.Answer.Answer, answer.End.End, answer.Outcome.Outcome, answer.Outcome.TheVariants.Ended, answer.Outcome.TheVariants.Faulted, answer.Outcome.TheVariants.More, answer.Outcome.TheVariants.Waits, answer.Stream.Stream, answer.Verdict.TheVariants.Bound, answer.Verdict.TheVariants.Finished, answer.Verdict.TheVariants.Memory, answer.Verdict.Verdict, config.Config.Config, fault.RunFault.RunFault, fault.RunFault.TheVariants.UnknownWatch, feeds.FeedFault.FeedFault, feeds.FeedFault.TheVariants.TooMany, sides.Side.Side, token.Token.Token, tree.Program.Program, tree.Role.TheVariants.Inner, tree.Role.TheVariants.Input, value.Line.Line, value.Line.TheVariants.Channel, value.Line.TheVariants.Print, value.Value.Value}
