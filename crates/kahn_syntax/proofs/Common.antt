-- What most proofs cite of the crates below and of specs/, passed on from one place.
pub use Rattle.kahn_syntax.specs.Texts.{lexemes, action_tree, argument_tree, chosen_of, declaration_tree, expression_tree, form_tree, instance_tree, name_of, operands_row, program_tree, statement_tree, statement_trees, statements_row, Placed, ActionSpans, ArgumentSpans, Covers, DeclarationSpans, ExpressionSpans, FormSpans, FurtherRowSpans, InstanceSpans, InstancesSpan, IsPast, NameSpans, OperandRowSpans, OtherSpans, ProgramSpans, StatementRowSpans, StatementSpans, StatementsSpan, Takes, parameter_with, variable_with, Begins, BeginsWithin, IsFault, IsNothing, IsOther, IsTooDeep, IsSentence, StandsAt, IsProgram, IsTextFault, Closes, Gap, HasBytes, HasForm, IsFaultAt, IsBlank, IsComment, IsCommentWord, IsDigit, IsLetter, IsLexFault, IsLongest, IsOfClass, IsReached, IsRun, IsSign, IsSlice, IsSpelled, IsWord, IsWordByte, Lexed, IsLexemeAt, bytes_of_sign, largest_number, letters_of, most_bytes, no_gap, then_blank, then_comment, AreProper, First, IsProper, IsUnsigned, terminal, terminals, AreLexemes, IsCharacter, IsWholeWithin, parameter_of, variable_of}
pub use Rattle.kahn_syntax.specs.Grammar.{Terminal, name, sign, word, ChannelGroup, Head, OneProcess, SomeNames, ParameterGroup, Reading, TakesAll, VariableGroup, spelling, Between, Ended, Further, May, Grouped, SomeBetween, all_members, group, members_of, Argues, ArgumentTree, DeclarationTree, SpellsDeclaration, InstanceTree, Instantiates, Parameters, ProgramTree, Spells, StandsFirst, Variables, channel, channels, declaration_nesting, declarations_nesting, instance, kind_terminal, nesting, process, program, role_words, taking_words, AreSome, ExpressionTree, Formed, FormedOperands, FormedStatement, FormedStatements, IsOneOperand, IsSimple, OperandTrees, StatementTree, StatementTrees, assign, block, bracket, conditional, denial, empty, expression_nesting, expression_words, further_words, if_else, if_then, level, negation, no_operand, no_statement, number, operand, operands_nesting, operands_words, operator_terminal, print, rank, repeat, send, statement, statement_nesting, statement_words, statements_nesting, statements_words, truth, truth_terminal, variable, wait, while_do, number_argument, truth_argument}
pub use Rattle.kahn_syntax.specs.Names.{Action, Argument, Assign, BadCharacter, Block', Bracket', Class, CommentOpen, Conditional', Declaration, Empty, Expected, Expression, Form, Held-Action-If-2, If', Instance, Keyword, Kind, Level, Level', Lexeme, More, Name, NameTooLong, Negate', None', Not', Nothing, NumberTooLarge, OneVariable, Operand, Operator, Or, Other, Parameter, Program, Refused, Relation, Repeat', Role, Row_of-Operand, Row_of-Statement, Sign, Some', Span, Statement, Stop, Sum, SyntaxFault, Taking, Term, TooDeep, TooLong, While', end_of-Operand, end_of-Statement, more_of-Operand, more_of-Statement}
pub use Rattle.kahn_syntax.specs.declared.lexeme.Class.TheVariants.{Name as NameClass, Number, Sign as SignClass, Word}
pub use Rattle.kahn_syntax.specs.declared.lexeme.Keyword.TheVariants.{And, Begin, Channel, Div, Do, Else, End, False, If, In, Input, Integer, Logical, Mod, On, Out, Output, Par, Print, Process, Repeat, Send, Then, True, Wait, While, Not as NotWord, Or as OrWord}
pub use Rattle.kahn_syntax.specs.declared.lexeme.Sign.TheVariants.{AtLeast, AtMost, Becomes, Close, Comma, Equal, Greater, Less, Minus, Not, Open, Plus, Semicolon, Times, Unequal}
pub use Rattle.kahn_syntax.specs.declared.parser.cursor.Stop.TheVariants.{NoMemory}
pub use Rattle.kahn_syntax.specs.inner.Machine.{ArgumentPart, ArgumentsPart, ArgumentsTail, DeclarationPart, DeclarationsPart, ElseTail, ExpressionPart, Fate, GroupPart, GroupsPart, GroupsTail, InstancePart, InstancesTail, LastTail, LevelPart, NamesTail, OperatorsPart, Part, ProcessPart, ProgramPart, Refuses, RolePart, Rule, SimplePart, StatementPart, StatementsTail, TakingPart, RuleToken, TokenPart, TooFar, VariablesPart, Whole, a_kind, a_name, a_number, a_sign, a_word, an_operator, argument_rules, class_of, declaration_rules, denial_rules, either, enters, expression_rules, factor_rules, fate, followed, group_rules, head_parts, leads, levels, may_end, onward, opened_by, operand_rules, operator_rules, or_rules, other_rules, process_rules, relation_rules, rules_of, simple_rules, starts, step, accepts, Rung, ands, at, denials, factors, operator_of, ors, rank_or, relations, rung_of, sums, terms, tighter, whole, is_alone}
pub use Rattle.kahn_syntax.specs.inner.Reads.{ExpressionBefore, ExpressionRead, FitsLevel, Halts, IsAbsent, IsStated, StopsAs, Moves, Reads, StatementRead, Stops}
pub use Rattle.kahn_streams.specs.declared.tree.Action.{items-the_row-Statement, items_hidden-the_row-Statement-0}
pub use Rattle.kahn_streams.specs.declared.tree.Action.TheBlock.{hidden-the_row-Statement-0}
pub use Rattle.kahn_streams.specs.declared.tree.Form.{items-the_row-Operand, items_hidden-the_row-Operand-0}
pub use Rattle.kahn_streams.specs.declared.tree.Form.TheBlock.{hidden-the_row-Operand-0}
pub use Rattle.kahn_streams.specs.declared.tree.Variable.{Variable}
pub use Rattle.std.proofs.Common.{Bool, Err, Global, IfNone, List, None, Ok, Option, Result, Some, Vec, [], add-one, ap, append_assoc, arith, bytes_eq, cond, drop, false, find, get_or, inl, inr, length, length-append, length-drop, length-take, lit<, lit≤, map, max, neg_ℤ, pos, refl, rules, subst, suc, sym, take, true, true≢false, vec_len, w64, zero, ℕ, ℤ, ⊎_elim, ◌*◌, ◌++◌, ◌+◌, ◌-◌, ◌<◌, ◌==◌, ◌∙◌, ◌∷◌, ◌≡◌, ◌≢◌, ◌≤◌, ◌⊎◌}
pub use Rattle.std.proofs.Math.Seq.{drop-cons}
pub use Rattle.std.proofs.lemmas.Bool.{cases_lt}
pub use Rattle.std.proofs.lemmas.Bool.Decides.{nat_tests}
pub use Rattle.std.proofs.lemmas.Grind.{common_steps}
pub use Rattle.std.proofs.lemmas.Int.{to_z-of_z}
pub use Rattle.std.proofs.lemmas.List.{append-nil, drop_more, get_or-drop, get_or-take, get_or_past, length-map, map-append, take-append-drop, take_all}
pub use Rattle.std.proofs.lemmas.List.Elements.{All-cons, All-head, All-nil, All-tail}
pub use Rattle.std.proofs.lemmas.Result.{IfErr-weaker, err_from_is_err_and}
pub use Rattle.std.proofs.lemmas.Str.{IsCharBoundary-after_ascii, IsCharBoundary-past_char, IsCharBoundary-start, IsUtf8-drop}
pub use Rattle.std.proofs.lemmas.Str.Parse.{IsNumeralModel, numerals_by_value, parse_signed_digits, tells_by_index}
pub use Rattle.std.specs.Char.{to_ascii_lowercase}
pub use Rattle.std.specs.Int.{IsInRange}
pub use Rattle.std.specs.Prelude.{All, FitsSigned, IfOk, IsCharBoundary, IsUtf8, MatchResult, codes, nat_le, slice_range, is_some, slice_index, ◌||◌}
pub use Rattle.std.specs.Str.Parse.{ParsesSigned, digits_value}

-- the node of a level, or the first operand alone where there is no other
abbrev pub level_or_first : ExpressionTree → OperandTrees → ExpressionTree
level_or_first e no_operand = e
level_or_first e (operand o f os) = level e (operand o f os)

-- operators with their right operands that were read
abbrev pub operands_of : List Operand → OperandTrees
operands_of [] = no_operand
operands_of (o ∷ os) = operand o.operator (expression_tree o.expression) (operands_of os)

abbrev pub OperandsSpan : List ℕ → List Operand → List Lexeme → List Lexeme → Type 0
OperandsSpan text [] xs r = xs ≡ r
OperandsSpan text (o ∷ os) xs r = (a b : List Lexeme) × Takes text (operator_terminal o.operator) xs a × ExpressionSpans text o.expression a b
    × OperandsSpan text os b r
