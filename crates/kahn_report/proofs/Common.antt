-- The names of the crates below and of this crate's definitions that proofs cite, passed on from one place.
pub use Rattle.kahn_streams.specs.Network.{Actual, Hands, Schema, Reads, Writes, actual_of, actuals_of, channel_names, channels_of, idle, instance_from, network_of, process_of}
pub use Rattle.kahn_streams.specs.View.{Scope, body_of, bytes_of, expr_of, level_of, names_of, place_of, row_of, stmt_of}
pub use Rattle.kahn_syntax.proofs.OneList.{same_lexemes}
pub use Rattle.kahn_syntax.proofs.OneTree.{one_tree}
pub use Rattle.kahn_syntax.proofs.Spelled.{program_spelled}
pub use Rattle.kahn_syntax.specs.Grammar.{Argues, ArgumentTree, DeclarationTree, ExpressionTree, InstanceTree, Instantiates, OperandTrees, ProgramTree, SomeBetween, SomeNames, Spells, SpellsDeclaration, StandsFirst, StatementTree, StatementTrees, Terminal, assign, block, bracket, conditional, denial, empty, group, if_else, if_then, level, name, negation, no_operand, no_statement, number, numeral, operand, print, repeat, send, sign, spelling, statement, truth, variable, wait, while_do, word}
pub use Rattle.kahn_syntax.specs.Texts.{IsProgram, action_tree, argument_tree, declaration_tree, form_tree, instance_tree, name_of, operands_row, parameter_of, program_tree, statement_trees, statements_row, terminals, variable_of}
pub use Rattle.kahn_texts.specs.Formats.{HasItsLines, end_text, end_words, ends_text, last_text, line_head, outcome_word, report_text, stream_text, text_lines, verdict_text, waited_name}
pub use Rattle.std.proofs.Common.{Bool, List, None, Option, Some, [], ap, arith, bytes_eq, codes, decimal, false, flat_map, if◌then◌else◌, inl, inr, length, map, pos, refl, rules, slice_index_or, string_bytes, subst, sym, true, ℕ, ◌++◌, ◌+◌, ◌∙◌, ◌∷◌, ◌≡◌}
pub use Rattle.kahn_streams.specs.declared.{tree.Program.Program}
