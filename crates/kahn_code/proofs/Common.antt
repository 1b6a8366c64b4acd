-- The words that most proofs cite, of this crate and of those below, passed on from one place.
pub use Rattle.kahn_code.specs.Cells.{AllStand, AreDriven, AreKeptTokens, StoodBy, exec_on, is_streamed, sent_on}
pub use Rattle.kahn_code.specs.Code.{AreProcessCodes, IsCodeOf, IsCompiled, AreUses, HasProcessCode, HasArguments, IsProcessCode, to_have, to_read, to_write, use_of, state_of}
pub use Rattle.kahn_code.specs.Common.{Actual, Argument, Failure, Line, Operator, Program, Value, AreInputsExtended, Channel, Cut, Dry, Expr, Follows, Hands, Holds, In, Inner, Input, Inputs, Node, Integer, IsOf, IsOwn, IsWellWired, Lists, Logical, Schema, Out, ScriptOutcome, Output, Parameter, Port, Print, Printer, Reached, Reads, Scope, Script, Stands, Step, Stmt, Store, Tapes, Token, Writes, Written, actual_at, actual_of, actuals_of, apply, body_of, channel_names, constant, default_of, empty, ending, exec, expression_of, goes_to, inputs_of, instance_at, is_output, is_watched, names_of, network_of, number, number_of, opening, opening_of, play, ranged, role_at, sends_of, source, statement_of, the_process, token_value, truth, values_at, values_taken, arithmetic}
pub use Rattle.kahn_code.specs.Flat.{Act, Breaks, Ends, Goes, Puts, State, Takes, act_of, asked_by, at_place, between, but_last, choice, code_script, depth, expr_code, held_at, is_operator, jump_of, later, literal, look, loop_code, named, need, negative, opened, operand_code, operate, part_code, part_of_body, perform, register, registers_of, skip_unless, stmt_code, target, test_code, test_of, tested, unless, wrote, wrote_or_breaks}
pub use Rattle.kahn_code.specs.Lines.{AreFirst, AreQueued, HasPoured, IsFirst, IsPoured, IsQueue, Joins, Lines, actual_here, at_first, given_of, next_at, place_at, queue_of, route_of, spare_of, taken_of, waiting_of, HasMore, Waiting}
pub use Rattle.kahn_code.specs.Progress.{AreStill, HasKept, HasStepped, IsFull, IsPause, IsSameOne, Sits, Wants, core_of, first_core, gone_of, opening_core, printed_core, sent_core, spare_in, taken_core, turned_core, AreCounts, HasRunFor, IsAt, IsStanding, CellView, site_of, told_of, told_view, Pauses, PausesAt}
pub use Rattle.kahn_code.specs.Standing.{DoesRead, IsNext, IsPlaceWithin, LeavesOthers, Moved, Site, Serve, StaySo, Stays, site_code, Core, Led, StandsBy, core_view, count, tokens}
pub use Rattle.kahn_code.specs.declared.form.ProcessCode.{ProcessCode}
pub use Rattle.kahn_code.specs.declared.form.ParameterUse.{ParameterUse}
pub use Rattle.kahn_code.specs.declared.form.Instruction.{Instruction}
pub use Rattle.kahn_code.specs.declared.form.Instruction.TheVariants.{Again, Apply, ApplyConstant, Constant, GoOn, Move, Negate, Not, Send, SkipUnless, Take, Turn}
pub use Rattle.kahn_code.specs.declared.form.Test.{Test}
pub use Rattle.kahn_code.specs.declared.form.Listed.{Listed}
pub use Rattle.kahn_code.specs.declared.progress.Pause.{Pause}
pub use Rattle.kahn_code.specs.declared.progress.Progress.{Progress}
pub use Rattle.kahn_code.specs.inner.Gone.{AllBegin, AreBehind, AreGivenFrom, regrown, spare_before, kept_behind, nothing_gone}
pub use Rattle.kahn_code.specs.inner.Forms.{AreFormed, HasFormedCode, IsFormed, reach_in, hands_channel, test_reach, Aims, HasTurn, IsJoined, AreForms, AreInPlace, IsInPlace, before_none, instruction_of, instructions_of, meanings, HasRemainder, IsAlone, IsForm, HasSum, HasTest, IsPlain, IsTurn, TellsRest, further}
pub use Rattle.kahn_code.specs.inner.Tapped.{OnNoMemory, WantsSpare, spares_of, Tapped, regrown_tap, HasForgotten, IsEvent, OnForwarded, tapped_of}
pub use Rattle.kahn_streams.proofs.By_number.{all_at, within}
pub use Rattle.kahn_streams.proofs.Proved.{feeds, iterates_rise, prefix_get, prefix_refl, prefix_trans, script_at, solves, some_same, values_append}
pub use Rattle.kahn_streams.proofs.Sourced.{handed_within, reads_listed, writes, writes_listed}
pub use Rattle.kahn_streams.proofs.Token_lists.{token_stands}
pub use Rattle.kahn_streams.specs.Meaning.{read, script_of, settle, turns_of, value_of}
pub use Rattle.kahn_streams.specs.Network.{IsFit, IsOnly, IsWithin, handed_at, idle, instance_from, taking_of, takings_of}
pub use Rattle.kahn_streams.specs.Script.{Fault, Give, Got, Sends, Turns, Waits}
pub use Rattle.kahn_streams.specs.Solution.{IsPrefix, exec_at, iterate, out, tapes_of}
pub use Rattle.kahn_streams.specs.Steps.{Sent, Took, Turned, halted, here, sent, took, turned}
pub use Rattle.kahn_streams.specs.Syntax.{Number}
pub use Rattle.kahn_streams.specs.View.{bytes_of, expr_of, level_of, place_of, row_of, stmt_of}
pub use Rattle.kahn_streams.specs.Wires.{process_at}
pub use Rattle.kahn_streams.specs.Wiring.{Agrees, HasKind}
pub use Rattle.kahn_streams.specs.declared.tree.Action.{Row_of-Statement, end_of-Statement, more_of-Statement}
pub use Rattle.kahn_streams.specs.declared.tree.Direction.{Direction}
pub use Rattle.kahn_streams.specs.declared.tree.Form.{Bracket', Form, Level', Row_of-Operand, Variable, end_of-Operand, more_of-Operand}
pub use Rattle.kahn_streams.specs.declared.tree.Operand.{Operand}
pub use Rattle.kahn_streams.specs.declared.tree.Statement.{Statement}
pub use Rattle.kahn_streams.specs.declared.tree.Action.TheBlock.{items-the_row-Statement}
pub use Rattle.kahn_streams.specs.declared.tree.Form.TheBlock.{items-the_row-Operand}
pub use Rattle.kahn_streams.specs.declared.tree.Form.TheViews.{the_lemmas}
pub use Rattle.std.proofs.Math.Seq.{drop-append_seam, map-set_same, set-append_seam}
pub use Rattle.std.proofs.lemmas.Bool.{cases_eq, cases_lt, le-ltb, ltb-false, ltb-true, ne_eqb}
pub use Rattle.std.proofs.lemmas.Grind.{common_steps}
pub use Rattle.std.proofs.lemmas.List.{append-nil, append_assoc, drop-drop, get_or-append-add, get_or-map, get_or-set_other, get_or-set_same, get_or_append_left, length-append, length-map, length-replicate, map-append, map-set, set-append_left, set-append_right, drop_all, get_or-drop, set-get_or, take_all}
pub use Rattle.std.proofs.lemmas.Option.{same_Some, slice_get-get_or, slice_get_past, slice_get_read, slice_get_within, get_or_from_slice_get, slice_get-map}
pub use Rattle.std.specs.Prelude.{slice_get, slice_set}
pub use Rattle.std.specs.Result.{IsErr, OnErr, OnOk, is_err, result_ok}
pub use Rattle.kahn_code.specs.inner.Copies.{FitsCopy, IsCopying, copied_core, left_for}
pub use Rattle.kahn_code.specs.inner.Feeds.{FitsFeed, IsFeeding, fed_core}
pub use Rattle.std.proofs.Common.{Bool, Err, IfNone, IfSome, IsSome, List, None, Ok, Option, Result, SFits, Some, [], add-one, add-zero, ap, arith, bytes_eq, drop, eq-eqb, eq-or-lt_of_le, eqb-true, false, if◌then◌else◌, inl, inr, int_lt, le_of_suc-le-suc, le_refl, le_trans, length, length-set, map, max, nat_lt, neg_ℤ, not, not-suc-le-zero, option_map, pos, refl, replicate, rules, slice_index_or, subst, suc, sym, take, to_z-of_z, true, true≢false, w64, zero, ℕ, ℤ, ◌*◌, ◌++◌, ◌+ℤ◌, ◌+◌, ◌-◌, ◌<◌, ◌==◌, ◌^◌, ◌||◌, ◌∙◌, ◌∷◌, ◌≡◌, ◌≢◌, ◌≤◌, ◌⊎◌}
pub use Rattle.std.proofs.Math.Nat.{add-mul, le-mul_of_pos_right, mul-div-le}
pub use Rattle.std.proofs.lemmas.List.Edits.{map_over_more}
pub use Rattle.std.proofs.lemmas.Result.{IfOk-equal, on_err_weaker, on_ok_weaker}
pub use mathlib.Core.Path.{fun_ext}
pub use Rattle.kahn_code.specs.declared.{form.CodeForm.CodeForm, form.Test.TheVariants.Compare, form.Test.TheVariants.CompareConstant}
