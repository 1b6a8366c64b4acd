-- What the proofs of the parser's functions cite, passed on from one place.
pub use Rattle.kahn_syntax.proofs.Common.{declarations_nesting, TakesAll, ParameterGroup, Between, DeclarationSpans, Ended, SomeNames, Parameters, Variables, lexemes, block, Formed, AreLexemes, AreProper, Argument, ArgumentPart, ArgumentSpans, ArgumentsPart, ArgumentsTail, Becomes, Begin, Channel, Close, Comma, Covers, DeclarationPart, DeclarationsPart, Do, Else, ElseTail, End, Err, ExpressionBefore, ExpressionPart, ExpressionRead, ExpressionSpans, False, FitsLevel, FitsSigned, FormedOperands, FormedStatement, FormedStatements, GroupPart, Grouped, GroupsPart, GroupsTail, Halts, If, IfErr-weaker, IfNone, IfOk, In, Input, Instance, InstancePart, InstanceSpans, InstancesSpan, InstancesTail, IsFault, IsProgram, IsSimple, IsTextFault, IsUnsigned, LastTail, LevelPart, Lexeme, List, May, Minus, Moves, Name, NameClass, NameSpans, NamesTail, None, NotWord, Number, Ok, On, Open, OperandsSpan, OperatorsPart, Option, Out, Output, Par, Print, Process, ProcessPart, Program, ProgramPart, ProgramSpans, ProgramTree, Refused, Repeat, Result, RolePart, Semicolon, Send, SignClass, SimplePart, Some, Spells, Statement, StatementPart, StatementRead, StatementSpans, StatementsTail, SyntaxFault, Takes, Taking, TakingPart, Then, TokenPart, True, VariablesPart, Wait, While, Word, a_kind, a_name, a_number, a_sign, a_word, is_alone, ap, argument_rules, arith, at, common_steps, declaration_tree, declaration_rules, denials, drop, drop_more, err_from_is_err_and, expression_nesting, expression_tree, factor_rules, factors, false, form_tree, get_or, group, head_parts, hidden-the_row-Operand-0, inl, inr, kind_terminal, leads, length, length-drop, level, map, max, members_of, name, name_of, neg_ℤ, nesting, no_operand, operands_nesting, operands_of, operands_row, operator_terminal, ors, other_rules, parameter_with, program_tree, refl, relations, rules, rung_of, sign, simple_rules, starts, statement_nesting, statement_tree, statements_nesting, statement_trees, subst, sums, sym, take, take-append-drop, accepts, terminals, tighter, to_z-of_z, true, true≢false, variable_with, vec_len, w64, whole, word, ℕ, [], ◌*◌, ◌++◌, ◌+◌, ◌-◌, ◌<◌, ◌∙◌, ◌∷◌, ◌≡◌, ◌≢◌, ◌≤◌, rules_of}
pub use Rattle.kahn_syntax.proofs.Levels.{alone_fits, formed_next, height, joined_made, joined_nesting, level_fits, operands_nesting_next}
pub use Rattle.kahn_syntax.proofs.Lists.{first_of, next_made, next_passed, next_proper, next_unsigned}
pub use Rattle.kahn_syntax.proofs.Meaning.{deep_left, deep_memory, halts_memory, is_more, is_nothing, is_other, is_too_deep, refused_left, refused_memory}
pub use Rattle.kahn_syntax.proofs.Moves.{AreMembers, members_begin, members_end, members_more, name_read, no_part, opens_some, absent, after_alone, after_levels, after_more, after_operator, call, call_stops, choice_parts, conditional_parts, deep, ends, expected, goes, halts, kind_moves, last_member, level_chain, level_ends, made, made_one, memory_alone, next_member, no_instance, no_name, nothing, one, one_argument, only_memory, opened, opened_simple, opens_arguments, opens_chain, opens_declarations, opens_denial, opens_process, opens_simple, opens_whole, operator_next, process_parts, refused, send_parts, stated, stopped, then, then_stops, token, unexpected, while_parts, whole_end}
pub use Rattle.kahn_syntax.proofs.Negative.{negative_fits, number_fits}
pub use Rattle.kahn_syntax.proofs.OneFault.{one_fault}
pub use Rattle.kahn_syntax.proofs.OneList.{same_lexemes}
pub use Rattle.kahn_syntax.proofs.OneTree.{one_tree}
pub use Rattle.kahn_syntax.proofs.Proper.{lexed_proper}
pub use Rattle.kahn_syntax.proofs.Rows.{operands_made, operands_row_spans, statements_made, statements_row_spans}
pub use Rattle.kahn_syntax.proofs.Spanning.{SomeParametersSpan, SomeStatements, declarations_next, name_first, no_operands, none_left, operands_next, parameters_first, parameters_next, some_are_parameters, some_between, some_more, takes as one_lexeme, variables_next}
pub use Rattle.kahn_syntax.proofs.Spelled.{nesting_more, program_spelled}
pub use Rattle.kahn_syntax.proofs.Steps.{starts_followed, starts_one}
pub use Rattle.kahn_syntax.proofs.Statements.{formed_next as formed_statements_next, nesting_next, some_next}
