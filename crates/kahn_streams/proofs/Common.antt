-- The names of the crates below and of this crate's definitions that proofs cite, passed on from one place.
pub use Rattle.kahn_streams.specs.Arithmetic.{apply, fits_64, is_zero, number, ranged, truth}
pub use Rattle.kahn_streams.specs.Compose.{ExpressionsCompose, LoopsUnroll, StatementsCompose, and_so, go_on}
pub use Rattle.kahn_streams.specs.Feeds.{IsEntryFed, IsMeant, IsNotMeant, IsUnwelcome, fed_to, total_after}
pub use Rattle.kahn_streams.specs.Inputs.{AreFew, AreFit, AreOfKind, Entry, FailsFirst, Holds, IsFirstRefused, IsInputFor, IsInputOf, IsListFor, Lists, asked_of_entry, channel_of, entry_of, inputs_of, is_given, kind_of_value, list_for, most_values}
pub use Rattle.kahn_streams.specs.Laws.{AreKinded, AreSame, Frame, HasOneValue, InputsGrow, IsBelow, IsChain, IsCounted, IsDetermined, IsQuiet, IsSettled, IsSolution, IsSolved, IsUnrolled, KeepsTape, SaysSoAgain, SendsStand}
pub use Rattle.kahn_streams.specs.Made.{IsMadeOf}
pub use Rattle.kahn_streams.specs.Meaning.{Store, constant, exec, read, script_of, settle, turns_of, value_of}
pub use Rattle.kahn_streams.specs.Network.{Actual, Given, Hands, HasNone, HasOne, Node, IsFit, IsListed, IsOnly, IsReader, IsServed, IsWithin, IsWriter, Schema, Nobody, Reads, Source, Writes, Written, actual_at, actual_of, actuals_of, any_written, channel_names, channel_source, channels_of, first_writer, handed_at, idle, instance_at, instance_from, is_written, kind_at, network_of, process_of, role_at, source_by, source_of, taking_of, takings_of}
pub use Rattle.kahn_streams.specs.Script.{Cut, Dry, Fail, Fault, Give, Got, Parameter, Port, Printer, Reached, Rest, Script, ScriptOutcome, Sends, Tapes, Turns, Waits, after_event, after_send, at_once, play, put, wait_at}
pub use Rattle.kahn_streams.specs.Solution.{AreInputsExtended, Ending, HasEnd, HasSizes, Histories, Inputs, IsExtended, IsPrefix, IsWhole, Stands, default_of, ending, exec_at, fed, goes_to, input_list, iterate, none_left, one_more, opening, opening_of, out, source, tape_of, tapes_of, values_at}
pub use Rattle.kahn_streams.specs.Steps.{Follows, RanBy, Sent, Step, Took, Turned, and_then, empty, halted, here, sends_of, sent, since, took, turned, values_taken}
pub use Rattle.kahn_streams.specs.Syntax.{Assign, Binary, Conditional, Constant, Expr, If, Literal, Negate, Not, Number, Print, Repeat, Send, Seq, Skip, Stmt, Truth, Variable, Wait, While, prints_in}
pub use Rattle.kahn_streams.specs.Types.{Argument, Declaration, Direction, Failure, FeedFault, InputFault, Kind, Line, Name, OneVariable, Operator, Process, Program, Role, Row_of-Statement, Side, Statement, Taking, Value, end_of-Statement, more_of-Statement}
pub use Rattle.kahn_streams.specs.View.{Scope, body_of, bytes_of, names_of, number_of, place_of, row_of, statement_of, stmt_of}
pub use Rattle.kahn_streams.specs.Wires.{IsKept, channel_line, first, lines_of, process_at, shown, the_process}
pub use Rattle.kahn_streams.specs.Wiring.{Agrees, AllFit, Fits, Global, Handover, HasKind, IsChannel, IsMade, IsOne, IsProcess, IsSound, IsWellWired, IsWired, constant_kind, declared_channels, declared_of, ends, entries, gives, global, handed, handed_by, handed_from, handed_in, is_closed, parameters_of, processes_of, readers, same_direction, scope_of, side_at, writers}
pub use Rattle.kahn_streams.specs.contracts.about.About.{the_row}
pub use Rattle.kahn_streams.specs.inner.Marked.{IsFitHere, IsRefusedAt}
pub use Rattle.kahn_streams.specs.inner.Numbers.{noted, number_in}
pub use Rattle.std.proofs.Common.{Bool, Err, List, None, Ok, Option, Result, Some, [], add-one, ap, append-nil, append_assoc, arith, bytes_eq, cond, drop, eq-eqb, eq-or-lt_of_le, eqb-true, false, get_or, get_or-set_other, get_or-set_same, if◌then◌else◌, inl, inr, int_div, int_rem, le_of_suc-le-suc, le_refl, le_trans, length, length-append, length-set, ltb, map, max, ne_eqb, neg_ℤ, not, not-suc-le-zero, pos, refl, replicate, rules, set, slice_get, slice_index_or, slice_set, subst, suc, suc-add, suc-le-suc, sym, take, true, true≢false, zero, zero-add, ℕ, ℤ, ◌%◌, ◌&&◌, ◌*ℤ◌, ◌*◌, ◌++◌, ◌+ℤ◌, ◌+◌, ◌-ℤ◌, ◌-◌, ◌<◌, ◌==◌, ◌||◌, ◌∙◌, ◌∷◌, ◌≡◌, ◌≢◌, ◌≤◌, ◌⊎◌}
pub use Rattle.std.proofs.Math.Logic.{∥∥₁_elim, ∥∥₁_prop}
pub use Rattle.std.proofs.Math.Nat.{add-suc, add-zero, le-max_left, le-max_right}
pub use Rattle.std.proofs.lemmas.Bool.{cases_eq, lt-ltb, ltb-true}
pub use Rattle.std.proofs.lemmas.Grind.{common_steps}
pub use Rattle.std.proofs.lemmas.List.{get_or-map, get_or_past, length-map, length-replicate, length_push, map-append, map-set, set-get_or, take-append-le, take-map}
pub use Rattle.std.proofs.lemmas.Map.Text.{btree_map_updates_text, text_keys}
pub use Rattle.std.proofs.lemmas.Option.{get_or_from_slice_get, slice_get-get_or, slice_get-map, slice_get_read, slice_get_within}
pub use Rattle.std.proofs.lemmas.Result.{err_from_is_err_and}
pub use Rattle.std.proofs.lemmas.Slice.Eq.{bytes_eq-Decides}
pub use Rattle.std.specs.BTreeMap.{get_by_text}
pub use Rattle.std.specs.List.{AllByRecursion}
pub use Rattle.std.specs.Map.{lookup, update}
pub use Rattle.std.specs.Prelude.{MatchResult, string_bytes}
pub use denote.Param.Send.{IsSend, IsSync, part_keyless}
pub use denote.RattleType.{RattleType}
pub use mathlib.Core.HLevel.{is_prop→PathP}
pub use mathlib.Core.Path.{fun_ext}
pub use Rattle.kahn_streams.specs.declared.{token.Token.Token, tree.Direction.TheVariants.In, tree.Direction.TheVariants.Out, tree.Role.TheVariants.Inner, tree.Role.TheVariants.Input, tree.Role.TheVariants.Output, value.Line.TheVariants.Channel, value.Value.TheVariants.Integer, value.Value.TheVariants.Logical}
