-- The names of the crates below and of this crate's definitions that proofs cite, passed on from one place.
pub use Rattle.kahn_check.specs.Parts.{faults_by_part, first_alone, firsts, instance_parts, name_parts, no_room, parts, side_parts, together, unless_empty}
pub use Rattle.kahn_check.specs.inner.Firsts.{HasAddedFirst, HasTold, HaveNumbers, IsWalkOf, fault_alone, first_fault, first_then, made_all, made_of}
pub use Rattle.kahn_check.specs.inner.Globals.{ArePlaced, IsPlaced, global_of, known, option_global}
pub use Rattle.kahn_check.specs.inner.Names.{AreFound}
pub use Rattle.kahn_check.specs.inner.Tables.{Ends, HaveGot, handed_all, handed_to, held, made_in, meant, place_faults, places_faults, seat_faults, seats_parts, side_in, sides_parts, taken}
pub use Rattle.kahn_check.specs.inner.Wires.{HasWired, as_lines, line_in, lines_in}
pub use Rattle.kahn_streams.proofs.Handed.{AtMostOne, IsServed, Table, as_channels, bytes_self, bytes_true, bytes_turned, ends_append, keys, served}
pub use Rattle.kahn_streams.specs.Faults.{IsMet, argument_faults, arguments_faults, body_faults, channel_faults, declaration_faults, else_faults, faults, faults_as, faults_in, faults_of, find, instance_faults, kind_in, kind_of, level_faults, level_kind, made_faults, miscounted, misplaced, misread, missing, misused, most_channels, most_instances, overtaken, process_faults, repeated, row_faults, side_faults, sides_faults, spanning, too_many, twice, verdict, wrong, wrong_first, wrong_second}
pub use Rattle.kahn_streams.specs.View.{body_of, bytes_of, else_of, expr_of, expression_of, level_of, place_of, row_of, stmt_of}
pub use Rattle.kahn_streams.specs.Wires.{Line, NamedWire, channel_line, first, lines_of, process_at, shown, the_process}
pub use Rattle.kahn_streams.specs.Wiring.{Agrees, AllFit, Fits, Global, Handover, HasKind, IsChannel, IsMade, IsOne, IsProcess, IsSound, IsTaken, IsWellWired, IsWired, Locals, declared_channels, declared_of, ends, entries, gives, global, handed, handed_by, handed_from, handed_in, is_closed, locals_of, parameters_of, processes_of, readers, same_direction, scope_of, side_at, takes, writers}
pub use Rattle.std.proofs.Common.{Bool, Err, IfSome, IsSome, List, MatchResult, None, Ok, Option, Result, Some, String, [], ap, append_assoc, arith, bytes_eq, cond, drop, eqb-true, false, inl, inr, is_some, length, length-append, map, nat_cmp, nat_eq, nat_lt, refl, rules, string_bytes, subst, suc, sym, true, true≢false, zero, add-zero, ℕ, ◌&&◌, ◌++◌, ◌+◌, ◌-◌, ◌<◌, ◌==◌, ◌∙◌, ◌∷◌, ◌≡◌, ◌≤◌, ◌⊎◌}
pub use Rattle.std.proofs.lemmas.Bool.Decides.{nat_tests}
pub use Rattle.std.proofs.lemmas.Grind.{common_steps}
pub use Rattle.std.proofs.lemmas.List.{append-nil, length-map, map-append}
pub use Rattle.std.proofs.lemmas.Result.{IfOk-weaker}
pub use Rattle.std.specs.List.{AllByRecursion}
pub use Rattle.std.specs.Map.{lookup, update}
pub use Rattle.std.specs.Option.{option_or}
pub use Rattle.std.specs.Ordering.{is_eq}
pub use Rattle.std.specs.Prelude.{◌↔◌, IfOk, slice_get}
pub use Rattle.kahn_streams.specs.declared.{fault.CheckFault.CheckFault, fault.CheckFault.TheVariants.DeclaredTwice, fault.CheckFault.TheVariants.NoMemory, fault.CheckFault.TheVariants.NoReader, fault.CheckFault.TheVariants.NoWriter, fault.CheckFault.TheVariants.TooMany, fault.CheckFault.TheVariants.Unknown, fault.CheckFault.TheVariants.WrongCount, sides.Side.Side, span.Span.Span, tree.Action.Action, tree.Action.Assign, tree.Action.Block', tree.Action.Empty, tree.Action.Held-Action-If-2, tree.Action.If', tree.Action.None', tree.Action.Print, tree.Action.Repeat', tree.Action.Row_of-Statement, tree.Action.Send, tree.Action.Some', tree.Action.While', tree.Action.end_of-Statement, tree.Action.more_of-Statement, tree.Argument.Argument, tree.Declaration.Declaration, tree.Direction.Direction, tree.Direction.TheVariants.In, tree.Direction.TheVariants.Out, tree.Form.Bracket', tree.Form.Conditional', tree.Form.Form, tree.Form.Level', tree.Form.Negate', tree.Form.Not', tree.Form.Number, tree.Form.Row_of-Operand, tree.Form.Variable, tree.Form.Wait, tree.Form.end_of-Operand, tree.Form.more_of-Operand, tree.Instance.Instance, tree.Kind.Kind, tree.Name.Name, tree.Parameter.Parameter, tree.Process.Process, tree.Program.Program, tree.Role.Role, tree.Role.TheVariants.Inner, tree.Role.TheVariants.Input, tree.Role.TheVariants.Output, tree.Taking.Taking, tree.Taking.TheVariants.Channel, tree.Taking.TheVariants.Value}
pub use Rattle.std.specs.declared.vec.Vec.{Vec}
