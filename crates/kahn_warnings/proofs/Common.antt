-- The words that most proofs cite, passed on from one place.
pub use Rattle.kahn_check.proofs.Wired.{lookup_append}
pub use Rattle.kahn_streams.specs.Arithmetic.{apply, arithmetic, fits_64, is_zero, number, ranged, truth}
pub use Rattle.kahn_streams.specs.Meaning.{Store, constant, eval, exec, read, script_of, settle, turns_of, value_of}
pub use Rattle.kahn_streams.specs.Network.{Actual, Given, Hands, Schema, Nobody, Reads, Source, Writes, Written, actual_at, instance_at}
pub use Rattle.kahn_streams.specs.Script.{Cut, Dry, Fail, Fault, Give, Got, Parameter, Port, Printer, Reached, Rest, Script, ScriptOutcome, Sends, Tapes, Turns, Waits, at_once, play, put, wait_at}
pub use Rattle.kahn_streams.specs.Solution.{Faulted, HasEnd, Histories, Inputs, ending, exec_at, fed, goes_to, input_list, iterate, opening, out, source, tape_of, tapes_of, values_at}
pub use Rattle.kahn_streams.specs.Syntax.{Assign, Binary, Conditional, Constant, Expr, If, Literal, Negate, Not, Print, Repeat, Send, Seq, Skip, Stmt, Variable, Wait, While}
pub use Rattle.kahn_streams.specs.View.{Scope, body_of, else_of, expr_of, expression_of, level_of, row_of, statement_of, stmt_of}
pub use Rattle.kahn_streams.specs.declared.{span.Span.Span, tree.Operand.Operand, tree.Operator.Operator, tree.Statement.Statement, value.Failure.Failure, value.Line.Line, value.Value.Value, tree.Form.TheViews.the_lemmas}
pub use Rattle.kahn_streams.specs.declared.tree.Action.{Action, Block', Held-Action-If-2, If', None', Repeat', Row_of-Statement, Some', While', end_of-Statement, more_of-Statement}
pub use Rattle.kahn_streams.specs.declared.tree.Action.TheBlock.{items-the_row-Statement}
pub use Rattle.kahn_streams.specs.declared.tree.Form.{Bracket', Conditional', Form, Level', Negate', Not', Row_of-Operand, end_of-Operand, more_of-Operand}
pub use Rattle.kahn_streams.specs.declared.tree.Form.TheBlock.{items-the_row-Operand}
pub use Rattle.kahn_streams.specs.declared.tree.Operator.TheVariants.{Add, Divide, Multiply, Remainder, Subtract, Unequal}
pub use Rattle.kahn_streams.specs.declared.value.Failure.TheVariants.{Division, Overflow}
pub use Rattle.kahn_streams.specs.declared.value.Line.TheVariants.{Channel}
pub use Rattle.kahn_streams.specs.declared.value.Value.TheVariants.{Integer, Logical}
pub use Rattle.kahn_expected.specs.Comments.{EndsLine}
pub use Rattle.kahn_warnings.specs.Comments.{AreCommentWarnings, IsCommentWarning}
pub use Rattle.kahn_warnings.specs.Constants.{ConstantsHold, chosen, combined, constant_of, divides, from_0, is_true, sure_fault, truly}
pub use Rattle.kahn_warnings.specs.Faults.{AreNumbersOf64, AreOf64Bits, AreWrittenIn64, FaultsLie, IsOf64Bits, IsOperand, IsWrittenIn64, can_fail, fault_places, is_failure, least, operator_can, place_where, site_places}
pub use Rattle.kahn_warnings.specs.Loops.{IsUnchanged, LoopsHold, is_seen, never_ends}
pub use Rattle.kahn_warnings.specs.Sites.{action_sites, else_sites, form_sites, level_sites, row_sites, site_at}
pub use Rattle.kahn_warnings.specs.Telling.{AreNotesOf}
pub use Rattle.kahn_warnings.specs.Uses.{any_varies_by, assigned_by, assigns, is_assigned_in, is_named, is_used_in, uses_name, varies_by, waits_in}
pub use Rattle.kahn_warnings.specs.Warned.{warned}
pub use Rattle.kahn_warnings.specs.Warnings.{block_items, by_layout, declaration_warnings, first_standing, first_unreached, list_warnings, name_warnings, parameter_warnings, program_warnings, row_warnings, site_warnings, statement_warnings, variable_warnings}
pub use Rattle.kahn_warnings.specs.declared.{sites.ConstantSite.ConstantSite, program.Warning.Warning}
pub use Rattle.kahn_warnings.specs.declared.program.WarningKind.TheVariants.{LongComment, Unreached}
pub use Rattle.kahn_warnings.specs.inner.Collecting.{contains}
pub use Rattle.std.proofs.Common.{All, Bool, Err, List, None, Ok, Option, Result, Some, [], ap, append-nil, append_assoc, arith, bytes_eq, cond, drop, false, flat_map, get_or, if◌then◌else◌, int_div, int_rem, is_some, length, nat_eq, nat_lt, neg_ℤ, negsuc, not, pos, refl, slice_set, string_bytes, subst, suc, sym, take, true, true≢false, zero, ℕ, ℤ, ◌&&◌, ◌*ℤ◌, ◌++◌, ◌+ℤ◌, ◌+◌, ◌-ℤ◌, ◌/◌, ◌<◌, ◌==◌, ◌^◌, ◌||◌, ◌∙◌, ◌∷◌, ◌≡◌, ◌≤◌, ⊎_elim, Equal, Greater, Less, rules}
pub use Rattle.std.proofs.Math.Bool.{or-false, or_assoc}
pub use Rattle.std.proofs.Math.Nat.{div-le_self, div-lt_self}
pub use Rattle.std.proofs.lemmas.Bool.{and_parts, or_cases, or_left, or_parts, or_right}
pub use Rattle.std.proofs.lemmas.Grind.{common_steps}
pub use Rattle.std.proofs.lemmas.Int.{ints, rem_below}
pub use Rattle.std.proofs.lemmas.List.{at_drop_all, get_or-set_other, take_all}
pub use Rattle.std.proofs.lemmas.List.Elements.{All-push, Contains-get_or}
pub use Rattle.std.proofs.lemmas.Option.{none-some, same_Some}
pub use Rattle.std.specs.Cmp.Lexicographic.{nat_list_eq_equiv}
pub use Rattle.std.specs.List.{AllByRecursion, list_any}
pub use Rattle.std.specs.Map.{lookup}
pub use Rattle.std.specs.Option.{option_or}
pub use Rattle.std.specs.Ordering.{is_eq}
pub use Rattle.std.specs.Prelude.{int_lt, unsigned_abs}
pub use Rattle.std.specs.Result.{result_err, result_ok}
pub use mathlib.Core.Path.{fun_ext}
