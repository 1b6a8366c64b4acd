-- Rows inside of trees, and the lists that they are.
use Rattle.kahn_syntax.proofs.Common.{◌≡◌, ℕ, List, refl, sym, subst, ap, ◌∙◌, Vec, Global, Row_of-Operand, end_of-Operand, more_of-Operand, items-the_row-Operand, items_hidden-the_row-Operand-0, hidden-the_row-Operand-0, Operand, Row_of-Statement, end_of-Statement, more_of-Statement, items-the_row-Statement, items_hidden-the_row-Statement-0, hidden-the_row-Statement-0, Statement, operand, statement, Lexeme, OperandRowSpans, OperandsSpan, StatementRowSpans, FurtherRowSpans, StatementsSpan, Takes, StatementSpans, Further, sign, form_tree, operands_row, operands_of, action_tree, statements_row, statement_trees, Semicolon}

operands_shown : (n : _) (row : Row_of-Operand n) → operands_row row ≡ operands_of (items-the_row-Operand n row)
operands_shown n end_of-Operand = refl
operands_shown n (more_of-Operand o at e rest) = ap (operand o (form_tree e)) (operands_shown _ rest)

pub operands_made : (rest : Vec Operand Global) → operands_row (hidden-the_row-Operand-0 rest) ≡ operands_of rest.items
operands_made rest = operands_shown _ (hidden-the_row-Operand-0 rest) ∙ ap operands_of (items_hidden-the_row-Operand-0 rest)

statements_shown : (n : _) (row : Row_of-Statement n) → statements_row row ≡ statement_trees (items-the_row-Statement n row)
statements_shown n end_of-Statement = refl
statements_shown n (more_of-Statement at a rest) = ap (statement (action_tree a)) (statements_shown _ rest)

pub statements_made : (rest : Vec Statement Global) → statements_row (hidden-the_row-Statement-0 rest) ≡ statement_trees rest.items
statements_made rest = statements_shown _ (hidden-the_row-Statement-0 rest) ∙ ap statement_trees (items_hidden-the_row-Statement-0 rest)

operands_spans_shown : (text : List ℕ) (n : _) (row : Row_of-Operand n) (xs r : List Lexeme) → OperandsSpan text (items-the_row-Operand n row) xs r → OperandRowSpans text row xs r
operands_spans_shown text n end_of-Operand xs r h = h
operands_spans_shown text n (more_of-Operand o at e rest) xs r (a, b, t, p, h) = (a, b, t, p, operands_spans_shown text _ rest b r h)

pub operands_row_spans : (text : List ℕ) (rest : Vec Operand Global) (xs r : List Lexeme) → OperandsSpan text rest.items xs r → OperandRowSpans text (hidden-the_row-Operand-0 rest) xs r
operands_row_spans text rest xs r h =
    operands_spans_shown text _ (hidden-the_row-Operand-0 rest) xs r (subst (λ os. OperandsSpan text os xs r) (sym (items_hidden-the_row-Operand-0 rest)) h)

further_spans_shown : (text : List ℕ) (n : _) (row : Row_of-Statement n) (xs r : List Lexeme) →
    Further (Takes text (sign Semicolon)) (StatementSpans text) (items-the_row-Statement n row) xs r → FurtherRowSpans text row xs r
further_spans_shown text n end_of-Statement xs r h = h
further_spans_shown text n (more_of-Statement at s rest) xs r (a, b, t, p, h) = (a, b, t, p, further_spans_shown text _ rest b r h)

statements_spans_shown : (text : List ℕ) (n : _) (row : Row_of-Statement n) (xs r : List Lexeme) → StatementsSpan text (items-the_row-Statement n row) xs r → StatementRowSpans text row xs r
statements_spans_shown text n end_of-Statement xs r h = h
statements_spans_shown text n (more_of-Statement at s rest) xs r (a, p, h) = (a, p, further_spans_shown text _ rest a r h)

pub statements_row_spans : (text : List ℕ) (rest : Vec Statement Global) (xs r : List Lexeme) → StatementsSpan text rest.items xs r → StatementRowSpans text (hidden-the_row-Statement-0 rest) xs r
statements_row_spans text rest xs r h =
    statements_spans_shown text _ (hidden-the_row-Statement-0 rest) xs r (subst (λ ss. StatementsSpan text ss xs r) (sym (items_hidden-the_row-Statement-0 rest)) h)
