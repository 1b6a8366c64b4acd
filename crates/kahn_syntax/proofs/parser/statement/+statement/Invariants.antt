use Rattle.kahn_syntax.proofs.Parsing.{AreProper, FormedStatements, Lexeme, List, Moves, SomeStatements, Statement, StatementPart, StatementSpans, StatementsTail, length, statements_nesting, statement_trees, [], ◌*◌, ◌++◌, ◌+◌, ◌∷◌, ◌≤◌}
use Rattle.kahn_syntax.proofs.parser.statement.+statement.Given as goal

abbrev pub decreases-read_simple : goal.decreases-read_simple
decreases-read_simple l = 4 * length l.input.now

abbrev pub decreases-read_statement : goal.decreases-read_statement
decreases-read_statement l = 4 * length l.input.now + 2

abbrev pub decreases-read_statements : goal.decreases-read_statements
decreases-read_statements l = 4 * length l.input.now + 3

abbrev pub invariant-read_statements-statements : goal.invariant-read_statements-statements
invariant-read_statements-statements l = record {
  spans : (s : Statement) (r : List Lexeme) → StatementSpans l.text s l.rest r → SomeStatements l.text (l.statements.items ++ s ∷ []) l.input r;
  formed : FormedStatements (statement_trees l.statements.items);
  nesting : l.depth + statements_nesting (statement_trees l.statements.items) ≤ 64;
  shorter : length l.rest ≤ length l.input;
  proper : AreProper l.text l.rest;
  reads : Moves l.text l.depth (StatementPart ∷ StatementsTail ∷ []) (StatementPart ∷ StatementsTail ∷ []) l.input l.rest;
}

abbrev pub decreases-read_statements-statements : goal.decreases-read_statements-statements
decreases-read_statements-statements l = length l.rest
