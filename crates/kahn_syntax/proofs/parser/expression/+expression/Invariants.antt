use Rattle.kahn_syntax.proofs.Parsing.{is_alone, true, ◌≡◌, AreProper, ExpressionPart, ExpressionSpans, FormedOperands, Lexeme, List, Moves, OperandsSpan, OperatorsPart, at, expression_nesting, expression_tree, height, length, max, operands_nesting, operands_of, rung_of, [], ◌*◌, ◌+◌, ◌∷◌, ◌≤◌}
use Rattle.kahn_syntax.proofs.parser.expression.+expression.Given as goal

abbrev pub decreases-read_before : goal.decreases-read_before
decreases-read_before l = 14 * length l.input.now + 13

abbrev pub decreases-read_denial : goal.decreases-read_denial
decreases-read_denial l = 14 * length l.input.now + 7

abbrev pub decreases-read_expression : goal.decreases-read_expression
decreases-read_expression l = 14 * length l.input.now + 12

abbrev pub decreases-read_factor : goal.decreases-read_factor
decreases-read_factor l = 14 * length l.input.now

abbrev pub decreases-read_level : goal.decreases-read_level
decreases-read_level l = 14 * length l.input.now + (height l.level + 1)

abbrev pub decreases-read_operand : goal.decreases-read_operand
decreases-read_operand l = 14 * length l.input.now + height l.level

abbrev pub invariant-read_level-operands : goal.invariant-read_level-operands
invariant-read_level-operands l = record {
  spans : (a : List Lexeme) × ExpressionSpans l.text l.first.value l.input a × OperandsSpan l.text l.further.items a l.rest;
  formed : FormedOperands (at (rung_of l.level)) (operands_of l.further.items);
  single : is_alone l.level ≡ true → l.further.items ≡ [];
  nesting : l.depth + max (expression_nesting (expression_tree l.first.value)) (operands_nesting (operands_of l.further.items)) ≤ 64;
  shorter : length l.rest + 1 ≤ length l.input;
  proper : AreProper l.text l.rest;
  reads : Moves l.text l.depth (ExpressionPart (rung_of l.level) ∷ []) (OperatorsPart (rung_of l.level) ∷ []) l.input l.rest;
}

abbrev pub decreases-read_level-operands : goal.decreases-read_level-operands
decreases-read_level-operands l = length l.rest
