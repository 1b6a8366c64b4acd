use Rattle.kahn_syntax.proofs.Parsing.{Becomes, On, Send, ExpressionBefore, a_name, expected, memory_alone, name, name_of, no_name, send_parts, token, block, statements_made, statements_row_spans, expression_nesting, expression_tree, Formed, ExpressionSpans, Begin, Do, Else, ElseTail, End, ExpressionPart, ExpressionRead, FormedStatement, FormedStatements, If, IsSimple, LevelPart, NameClass, Print, Repeat, Semicolon, SignClass, SimplePart, SomeStatements, StatementPart, StatementRead, StatementSpans, StatementsTail, Takes, Then, TokenPart, While, Word, a_sign, a_word, ap, arith, call, call_stops, conditional_parts, deep, drop, ends, stopped, false, first_of, formed_statements_next, goes, last_member, leads, level_ends, nesting_next, next_member, nothing, one, one_lexeme, opened_simple, opens_simple, other_rules, refl, rules, sign, simple_rules, some_between, some_more, some_next, starts, statement_nesting, statements_nesting, statement_trees, stated, subst, sym, terminals, then, then_stops, unexpected, while_parts, whole, word, [], ◌++◌, ◌∙◌, ◌∷◌, ◌≡◌}
use Rattle.kahn_syntax.proofs.parser.statement.+statement.Goals as goal

pub read_statement-returns-in_err-inner-in-Some-Word-While-default : goal.read_statement-returns-in_err-inner-in-Some-Word-While-default
read_statement-returns-in_err-inner-in-Some-Word-While-default t c = stopped _ _ c.from_residual-in_err-inner-in-Some-Word-While-default.result c.from_residual-in_err-inner-in-Some-Word-While-default.ensures.1 (deep c.args.text.now c.args.depth (StatementPart) ([]) (ExpressionPart whole ∷ TokenPart (a_word Do) ∷ StatementPart ∷ LevelPart ∷ []) (word While) c.args.input.now c.in-Some-Word-While-default.rest.now _ (λ s l. omega (arith, l, c.in_err-inner-in-Some-Word-While-default.ensures.stop.0)) (λ s. refl) ((first_of _ (Word While) c.args.input.now c.in-Some-Word-While-default.rest.now (c.in-Some-Word-While-default.field-0-0-is ∙ ap Word c.in-Some-Word-While-default.field-0-0-0-is) c.in-Some-Word-While-default.ensures.first.0).1 c.args.text.now) c.in_err-inner-in-Some-Word-While-default.ensures.stop.1)

pub read_statement-returns-in_err-inner-in-Some-Word-Repeat-default : goal.read_statement-returns-in_err-inner-in-Some-Word-Repeat-default
read_statement-returns-in_err-inner-in-Some-Word-Repeat-default t c = stopped _ _ c.from_residual-in_err-inner-in-Some-Word-Repeat-default.result c.from_residual-in_err-inner-in-Some-Word-Repeat-default.ensures.1 (deep c.args.text.now c.args.depth (StatementPart) ([]) (StatementPart ∷ LevelPart ∷ []) (word Repeat) c.args.input.now c.in-Some-Word-Repeat-default.rest.now _ (λ s l. omega (arith, l, c.in_err-inner-in-Some-Word-Repeat-default.ensures.stop.0)) (λ s. refl) ((first_of _ (Word Repeat) c.args.input.now c.in-Some-Word-Repeat-default.rest.now (c.in-Some-Word-Repeat-default.field-0-0-is ∙ ap Word c.in-Some-Word-Repeat-default.field-0-0-0-is) c.in-Some-Word-Repeat-default.ensures.first.0).1 c.args.text.now) c.in_err-inner-in-Some-Word-Repeat-default.ensures.stop.1)

pub read_statement-read_statement-requires-in-Some-Word-Repeat-default : goal.read_statement-read_statement-requires-in-Some-Word-Repeat-default
read_statement-read_statement-requires-in-Some-Word-Repeat-default t c = (omega (arith, c.requires.1.0, c.in-Some-Word-Repeat-default.ensures.first.1), (c.in_ok-inner-in-Some-Word-Repeat-default.ensures.deeper.1, c.in-Some-Word-Repeat-default.ensures.proper c.args.text.now c.requires.1.1.1))

pub read_statement-returns-in_err-turn-in-Some-Word-Repeat-default : goal.read_statement-returns-in_err-turn-in-Some-Word-Repeat-default
read_statement-returns-in_err-turn-in-Some-Word-Repeat-default t c = stopped _ _ c.from_residual-in_err-turn-in-Some-Word-Repeat-default.result c.from_residual-in_err-turn-in-Some-Word-Repeat-default.ensures.1 (then_stops _ (one c.args.text.now c.args.depth (StatementPart) ([]) (StatementPart ∷ LevelPart ∷ []) (word Repeat) c.args.input.now c.in-Some-Word-Repeat-default.rest.now (λ s l. omega (arith, l, c.requires.1.1.0, c.in_ok-inner-in-Some-Word-Repeat-default.ensures.deeper.0, c.in_ok-inner-in-Some-Word-Repeat-default.ensures.deeper.1)) (λ s. refl) ((first_of _ (Word Repeat) c.args.input.now c.in-Some-Word-Repeat-default.rest.now (c.in-Some-Word-Repeat-default.field-0-0-is ∙ ap Word c.in-Some-Word-Repeat-default.field-0-0-0-is) c.in-Some-Word-Repeat-default.ensures.first.0).1 c.args.text.now)) (call_stops c.args.text.now c.args.depth c.in_ok-inner-in-Some-Word-Repeat-default.inner (StatementPart ∷ []) (LevelPart ∷ []) c.in-Some-Word-Repeat-default.rest.now _ (λ s l. omega (arith, l, c.requires.1.1.0, c.in_ok-inner-in-Some-Word-Repeat-default.ensures.deeper.0, c.in_ok-inner-in-Some-Word-Repeat-default.ensures.deeper.1)) c.in_err-turn-in-Some-Word-Repeat-default.ensures))

pub read_statement-returns-in_err-inner-in-Some-Word-If-default : goal.read_statement-returns-in_err-inner-in-Some-Word-If-default
read_statement-returns-in_err-inner-in-Some-Word-If-default t c = stopped _ _ c.from_residual.result c.from_residual.ensures.1 (deep c.args.text.now c.args.depth (StatementPart) ([]) (ExpressionPart whole ∷ TokenPart (a_word Then) ∷ SimplePart ∷ ElseTail ∷ LevelPart ∷ []) (word If) c.args.input.now c.in-Some-Word-If-default.rest.now _ (λ s l. omega (arith, l, c.in_err-inner-in-Some-Word-If-default.ensures.stop.0)) (λ s. refl) ((first_of _ (Word If) c.args.input.now c.in-Some-Word-If-default.rest.now (c.in-Some-Word-If-default.field-0-0-is ∙ ap Word c.in-Some-Word-If-default.field-0-0-0-is) c.in-Some-Word-If-default.ensures.first.0).1 c.args.text.now) c.in_err-inner-in-Some-Word-If-default.ensures.stop.1)

pub read_simple-read_expression-requires-in-Some-Word-Print-default-clause-proper : goal.read_simple-read_expression-requires-in-Some-Word-Print-default-clause-proper
read_simple-read_expression-requires-in-Some-Word-Print-default-clause-proper t c = c.in-Some-Word-Print-default.ensures.proper c.args.text.now c.requires.1.1.1

pub read_simple-returns-in_err-value-in-Some-Word-Print-default : goal.read_simple-returns-in_err-value-in-Some-Word-Print-default
read_simple-returns-in_err-value-in-Some-Word-Print-default t c = stopped _ _ c.from_residual-in_err-value-in-Some-Word-Print-default.result c.from_residual-in_err-value-in-Some-Word-Print-default.ensures.1 (then_stops _ (one c.args.text.now c.args.depth (SimplePart) ([]) (ExpressionPart whole ∷ []) (word Print) c.args.input.now c.in-Some-Word-Print-default.rest.now (λ s l. omega (arith, l, c.requires.1.1.0)) (λ s. refl) ((first_of _ (Word Print) c.args.input.now c.in-Some-Word-Print-default.rest.now (c.in-Some-Word-Print-default.field-0-0-is ∙ ap Word c.in-Some-Word-Print-default.field-0-0-0-is) c.in-Some-Word-Print-default.ensures.first.0).1 c.args.text.now)) (call_stops c.args.text.now c.args.depth c.args.depth (ExpressionPart whole ∷ []) ([]) c.in-Some-Word-Print-default.rest.now _ (λ s l. omega (arith, l, c.requires.1.1.0)) c.in_err-value-in-Some-Word-Print-default.ensures))

pub read_simple-returns-in_err-inner-in-Some-Word-Begin-default : goal.read_simple-returns-in_err-inner-in-Some-Word-Begin-default
read_simple-returns-in_err-inner-in-Some-Word-Begin-default t c = stopped _ _ c.from_residual-in_err-inner-in-Some-Word-Begin-default.result c.from_residual-in_err-inner-in-Some-Word-Begin-default.ensures.1 (deep c.args.text.now c.args.depth (SimplePart) ([]) (StatementPart ∷ StatementsTail ∷ TokenPart (a_word End) ∷ LevelPart ∷ []) (word Begin) c.args.input.now c.in-Some-Word-Begin-default.rest.now _ (λ s l. omega (arith, l, c.in_err-inner-in-Some-Word-Begin-default.ensures.stop.0)) (λ s. refl) ((first_of _ (Word Begin) c.args.input.now c.in-Some-Word-Begin-default.rest.now (c.in-Some-Word-Begin-default.field-0-0-is ∙ ap Word c.in-Some-Word-Begin-default.field-0-0-0-is) c.in-Some-Word-Begin-default.ensures.first.0).1 c.args.text.now) c.in_err-inner-in-Some-Word-Begin-default.ensures.stop.1)

pub read_simple-read_statements-requires : goal.read_simple-read_statements-requires
read_simple-read_statements-requires t c = (omega (arith, c.requires.1.0, c.in-Some-Word-Begin-default.ensures.first.1), (c.in_ok-inner-in-Some-Word-Begin-default.ensures.deeper.1, c.in-Some-Word-Begin-default.ensures.proper c.args.text.now c.requires.1.1.1))

pub read_simple-returns-in_err-statements-in-Some-Word-Begin-default : goal.read_simple-returns-in_err-statements-in-Some-Word-Begin-default
read_simple-returns-in_err-statements-in-Some-Word-Begin-default t c = stopped _ _ c.from_residual-in_err-statements-in-Some-Word-Begin-default.result c.from_residual-in_err-statements-in-Some-Word-Begin-default.ensures.1 (then_stops _ (one c.args.text.now c.args.depth (SimplePart) ([]) (StatementPart ∷ StatementsTail ∷ TokenPart (a_word End) ∷ LevelPart ∷ []) (word Begin) c.args.input.now c.in-Some-Word-Begin-default.rest.now (λ s l. omega (arith, l, c.requires.1.1.0, c.in_ok-inner-in-Some-Word-Begin-default.ensures.deeper.0, c.in_ok-inner-in-Some-Word-Begin-default.ensures.deeper.1)) (λ s. refl) ((first_of _ (Word Begin) c.args.input.now c.in-Some-Word-Begin-default.rest.now (c.in-Some-Word-Begin-default.field-0-0-is ∙ ap Word c.in-Some-Word-Begin-default.field-0-0-0-is) c.in-Some-Word-Begin-default.ensures.first.0).1 c.args.text.now)) (call_stops c.args.text.now c.args.depth c.in_ok-inner-in-Some-Word-Begin-default.inner (StatementPart ∷ StatementsTail ∷ []) (TokenPart (a_word End) ∷ LevelPart ∷ []) c.in-Some-Word-Begin-default.rest.now _ (λ s l. omega (arith, l, c.requires.1.1.0, c.in_ok-inner-in-Some-Word-Begin-default.ensures.deeper.0, c.in_ok-inner-in-Some-Word-Begin-default.ensures.deeper.1)) c.in_err-statements-in-Some-Word-Begin-default.ensures))

pub read_simple-returns-in_err-rest-in-Some-Word-Begin-default : goal.read_simple-returns-in_err-rest-in-Some-Word-Begin-default
read_simple-returns-in_err-rest-in-Some-Word-Begin-default t c = stopped _ _ c.from_residual-in_err-rest-in-Some-Word-Begin-default.result c.from_residual-in_err-rest-in-Some-Word-Begin-default.ensures.1 (then_stops _ (then (one c.args.text.now c.args.depth (SimplePart) ([]) (StatementPart ∷ StatementsTail ∷ TokenPart (a_word End) ∷ LevelPart ∷ []) (word Begin) c.args.input.now c.in-Some-Word-Begin-default.rest.now (λ s l. omega (arith, l, c.requires.1.1.0, c.in_ok-inner-in-Some-Word-Begin-default.ensures.deeper.0, c.in_ok-inner-in-Some-Word-Begin-default.ensures.deeper.1)) (λ s. refl) ((first_of _ (Word Begin) c.args.input.now c.in-Some-Word-Begin-default.rest.now (c.in-Some-Word-Begin-default.field-0-0-is ∙ ap Word c.in-Some-Word-Begin-default.field-0-0-0-is) c.in-Some-Word-Begin-default.ensures.first.0).1 c.args.text.now)) (call c.args.text.now c.args.depth c.in_ok-inner-in-Some-Word-Begin-default.inner (StatementPart ∷ StatementsTail ∷ []) (TokenPart (a_word End) ∷ LevelPart ∷ []) c.in-Some-Word-Begin-default.rest.now c.in_ok-statements-in-Some-Word-Begin-default.rest.now (λ s l. omega (arith, l, c.requires.1.1.0, c.in_ok-inner-in-Some-Word-Begin-default.ensures.deeper.0, c.in_ok-inner-in-Some-Word-Begin-default.ensures.deeper.1)) c.in_ok-statements-in-Some-Word-Begin-default.ensures.reads)) (unexpected c.args.text.now c.args.depth (a_word End) (LevelPart ∷ []) (Word End) c.in_ok-statements-in-Some-Word-Begin-default.rest.now _ refl c.in_err-rest-in-Some-Word-Begin-default.ensures.stop))

pub read_statement-read_before-requires-in-Some-Word-While-default : goal.read_statement-read_before-requires-in-Some-Word-While-default
read_statement-read_before-requires-in-Some-Word-While-default t c =
    record { depth = c.in_ok-inner-in-Some-Word-While-default.ensures.deeper.1; proper = c.in-Some-Word-While-default.ensures.proper c.args.text.now c.requires.1.1.1; last = refl }

pub read_statement-read_statement-requires-in-Some-Word-While-default : goal.read_statement-read_statement-requires-in-Some-Word-While-default
read_statement-read_statement-requires-in-Some-Word-While-default t c =
    (omega (arith, c.requires.1.0, c.in-Some-Word-While-default.ensures.first.1, c.in_ok-test-in-Some-Word-While-default.ensures.shorter), (c.in_ok-inner-in-Some-Word-While-default.ensures.deeper.1, c.in_ok-test-in-Some-Word-While-default.ensures.proper))

pub read_statement-returns-in_err-test-in-Some-Word-While-default : goal.read_statement-returns-in_err-test-in-Some-Word-While-default
read_statement-returns-in_err-test-in-Some-Word-While-default t c =
    let T = c.args.text.now in let i = c.args.input.now in
    let e = c.in_ok-inner-in-Some-Word-While-default.inner in
    let n = c.in_ok-inner-in-Some-Word-While-default.ensures.deeper.0 in
    let m = one T c.args.depth StatementPart [] while_parts (word While) i c.in-Some-Word-While-default.rest.now (λ s l. omega (arith, l, n, c.in_ok-inner-in-Some-Word-While-default.ensures.deeper.1)) (λ s. refl) ((first_of _ (Word While) c.args.input.now c.in-Some-Word-While-default.rest.now (c.in-Some-Word-While-default.field-0-0-is ∙ ap Word c.in-Some-Word-While-default.field-0-0-0-is) c.in-Some-Word-While-default.ensures.first.0).1 T) in
    stopped _ _ c.from_residual-in_err-test-in-Some-Word-While-default.result c.from_residual-in_err-test-in-Some-Word-While-default.ensures.1 (then_stops _ m
    (call_stops T c.args.depth e (ExpressionPart whole ∷ TokenPart (a_word Do) ∷ []) (drop 2 while_parts) c.in-Some-Word-While-default.rest.now _ (λ s l. omega (arith, l, n)) c.in_err-test-in-Some-Word-While-default.ensures))

pub read_statement-returns-in_err-turn-in-Some-Word-While-default : goal.read_statement-returns-in_err-turn-in-Some-Word-While-default
read_statement-returns-in_err-turn-in-Some-Word-While-default t c =
    let T = c.args.text.now in let i = c.args.input.now in
    let e = c.in_ok-inner-in-Some-Word-While-default.inner in
    let n = c.in_ok-inner-in-Some-Word-While-default.ensures.deeper.0 in
    let m2 = then (one T c.args.depth StatementPart [] while_parts (word While) i c.in-Some-Word-While-default.rest.now (λ s l. omega (arith, l, n, c.in_ok-inner-in-Some-Word-While-default.ensures.deeper.1)) (λ s. refl) ((first_of _ (Word While) c.args.input.now c.in-Some-Word-While-default.rest.now (c.in-Some-Word-While-default.field-0-0-is ∙ ap Word c.in-Some-Word-While-default.field-0-0-0-is) c.in-Some-Word-While-default.ensures.first.0).1 T)) (call T c.args.depth e (ExpressionPart whole ∷ TokenPart (a_word Do) ∷ []) (drop 2 while_parts) c.in-Some-Word-While-default.rest.now c.in_ok-test-in-Some-Word-While-default.rest.now (λ s l. omega (arith, l, n)) c.in_ok-test-in-Some-Word-While-default.ensures.reads) in
    stopped _ _ c.from_residual-in_err-turn-in-Some-Word-While-default.result c.from_residual-in_err-turn-in-Some-Word-While-default.ensures.1 (then_stops _ m2
    (call_stops T c.args.depth e (StatementPart ∷ []) (LevelPart ∷ []) c.in_ok-test-in-Some-Word-While-default.rest.now _ (λ s l. omega (arith, l, n)) c.in_err-turn-in-Some-Word-While-default.ensures))

pub read_statement-read_before-requires : goal.read_statement-read_before-requires
read_statement-read_before-requires t c =
    record { depth = c.in_ok-inner-in-Some-Word-If-default.ensures.deeper.1; proper = (c.in-Some-Word-If-default.ensures.proper c.args.text.now c.requires.1.1.1); last = refl }

pub read_statement-read_simple-requires : goal.read_statement-read_simple-requires
read_statement-read_simple-requires t c =
    (omega (arith, c.requires.1.0, c.in-Some-Word-If-default.ensures.first.1, c.in_ok-test-in-Some-Word-If-default.ensures.shorter), (c.in_ok-inner-in-Some-Word-If-default.ensures.deeper.1, c.in_ok-test-in-Some-Word-If-default.ensures.proper))

pub read_statement-read_statement-requires : goal.read_statement-read_statement-requires
read_statement-read_statement-requires t c =
    (omega (arith, c.requires.1.0, c.in-Some-Word-If-default.ensures.first.1, c.in_ok-test-in-Some-Word-If-default.ensures.shorter, c.in_ok-yes-in-Some-Word-If-default.ensures.shorter, c.in-Some.ensures.shorter), (c.in_ok-inner-in-Some-Word-If-default.ensures.deeper.1, c.in-Some.ensures.proper c.args.text.now c.in_ok-yes-in-Some-Word-If-default.ensures.proper))

pub read_statement-returns-in_err-test-in-Some-Word-If-default : goal.read_statement-returns-in_err-test-in-Some-Word-If-default
read_statement-returns-in_err-test-in-Some-Word-If-default t c =
    let T = c.args.text.now in let i = c.args.input.now in
    let e = c.in_ok-inner-in-Some-Word-If-default.inner in
    let n = c.in_ok-inner-in-Some-Word-If-default.ensures.deeper.0 in
    let m = one T c.args.depth StatementPart [] conditional_parts (word If) i c.in-Some-Word-If-default.rest.now (λ s l. omega (arith, l, n, c.in_ok-inner-in-Some-Word-If-default.ensures.deeper.1)) (λ s. refl) ((first_of _ (Word If) c.args.input.now c.in-Some-Word-If-default.rest.now (c.in-Some-Word-If-default.field-0-0-is ∙ ap Word c.in-Some-Word-If-default.field-0-0-0-is) c.in-Some-Word-If-default.ensures.first.0).1 T) in
    stopped _ _ c.from_residual-in_err-test-in-Some-Word-If-default.result c.from_residual-in_err-test-in-Some-Word-If-default.ensures.1 (then_stops _ m
    (call_stops T c.args.depth e (ExpressionPart whole ∷ TokenPart (a_word Then) ∷ []) (drop 2 conditional_parts) c.in-Some-Word-If-default.rest.now _ (λ s l. omega (arith, l, n)) c.in_err-test-in-Some-Word-If-default.ensures))

pub read_statement-returns-in_err-yes-in-Some-Word-If-default : goal.read_statement-returns-in_err-yes-in-Some-Word-If-default
read_statement-returns-in_err-yes-in-Some-Word-If-default t c =
    let T = c.args.text.now in let i = c.args.input.now in
    let e = c.in_ok-inner-in-Some-Word-If-default.inner in
    let n = c.in_ok-inner-in-Some-Word-If-default.ensures.deeper.0 in
    let m2 = then (one T c.args.depth StatementPart [] conditional_parts (word If) i c.in-Some-Word-If-default.rest.now (λ s l. omega (arith, l, n, c.in_ok-inner-in-Some-Word-If-default.ensures.deeper.1)) (λ s. refl) ((first_of _ (Word If) c.args.input.now c.in-Some-Word-If-default.rest.now (c.in-Some-Word-If-default.field-0-0-is ∙ ap Word c.in-Some-Word-If-default.field-0-0-0-is) c.in-Some-Word-If-default.ensures.first.0).1 T)) (call T c.args.depth e (ExpressionPart whole ∷ TokenPart (a_word Then) ∷ []) (drop 2 conditional_parts) c.in-Some-Word-If-default.rest.now c.in_ok-test-in-Some-Word-If-default.rest.now (λ s l. omega (arith, l, n)) c.in_ok-test-in-Some-Word-If-default.ensures.reads) in
    stopped _ _ c.from_residual-in_err-yes-in-Some-Word-If-default.result c.from_residual-in_err-yes-in-Some-Word-If-default.ensures.1 (then_stops _ m2
    (call_stops T c.args.depth e (SimplePart ∷ []) (drop 3 conditional_parts) c.in_ok-test-in-Some-Word-If-default.rest.now _ (λ s l. omega (arith, l, n)) c.in_err-yes-in-Some-Word-If-default.ensures))

pub read_statement-returns-in_err-no-in-Some-Word-If-default : goal.read_statement-returns-in_err-no-in-Some-Word-If-default
read_statement-returns-in_err-no-in-Some-Word-If-default t c =
    let T = c.args.text.now in let i = c.args.input.now in
    let e = c.in_ok-inner-in-Some-Word-If-default.inner in
    let n = c.in_ok-inner-in-Some-Word-If-default.ensures.deeper.0 in
    let m4 = then (then (then (one T c.args.depth StatementPart [] conditional_parts (word If) i c.in-Some-Word-If-default.rest.now (λ s l. omega (arith, l, n, c.in_ok-inner-in-Some-Word-If-default.ensures.deeper.1)) (λ s. refl) ((first_of _ (Word If) c.args.input.now c.in-Some-Word-If-default.rest.now (c.in-Some-Word-If-default.field-0-0-is ∙ ap Word c.in-Some-Word-If-default.field-0-0-0-is) c.in-Some-Word-If-default.ensures.first.0).1 T)) (call T c.args.depth e (ExpressionPart whole ∷ TokenPart (a_word Then) ∷ []) (drop 2 conditional_parts) c.in-Some-Word-If-default.rest.now c.in_ok-test-in-Some-Word-If-default.rest.now (λ s l. omega (arith, l, n)) c.in_ok-test-in-Some-Word-If-default.ensures.reads)) (call T c.args.depth e (SimplePart ∷ []) (drop 3 conditional_parts) c.in_ok-test-in-Some-Word-If-default.rest.now c.in_ok-yes-in-Some-Word-If-default.rest.now (λ s l. omega (arith, l, n)) c.in_ok-yes-in-Some-Word-If-default.ensures.reads)) (goes T c.args.depth ElseTail (a_word Else) _ (LevelPart ∷ []) (Word Else) c.in_ok-yes-in-Some-Word-If-default.rest.now c.in-Some.after.now (λ s l. omega (arith, l, n, c.in_ok-inner-in-Some-Word-If-default.ensures.deeper.1)) refl refl c.in-Some.ensures.first) in
    stopped _ _ c.from_residual-in_err-no-in-Some-Word-If-default.result c.from_residual-in_err-no-in-Some-Word-If-default.ensures.1 (then_stops _ m4
    (call_stops T c.args.depth e (StatementPart ∷ []) (LevelPart ∷ []) c.in-Some.after.now _ (λ s l. omega (arith, l, n)) c.in_err-no-in-Some-Word-If-default.ensures))

pub read_statement-returns-in_ok-turn-in-Some-Word-While-default : goal.read_statement-returns-in_ok-turn-in-Some-Word-While-default
read_statement-returns-in_ok-turn-in-Some-Word-While-default t c =
    stated c.args.text.now c.args.depth StatementPart _ c.args.input.now c.in_ok-turn-in-Some-Word-While-default.rest.now (λ at h. record {
      spans = let T = c.args.text.now in (h, (_, c.in_ok-test-in-Some-Word-While-default.ensures.spans.0, _, (one_lexeme T (word While) c.args.input.now c.in-Some-Word-While-default.rest.now c.in-Some-Word-While-default.ensures.passed ((first_of _ (Word While) c.args.input.now c.in-Some-Word-While-default.rest.now (c.in-Some-Word-While-default.field-0-0-is ∙ ap Word c.in-Some-Word-While-default.field-0-0-0-is) c.in-Some-Word-While-default.ensures.first.0).1 T)), subst (λ y. ExpressionSpans T y c.in-Some-Word-While-default.rest.now c.in_ok-test-in-Some-Word-While-default.ensures.spans.0) (sym c.into_inner-test-in-Some-Word-While-default.ensures) c.in_ok-test-in-Some-Word-While-default.ensures.spans.1, c.in_ok-test-in-Some-Word-While-default.ensures.spans.2, c.in_ok-turn-in-Some-Word-While-default.ensures.spans));
      formed = ((subst (λ y. Formed (expression_tree y)) (sym c.into_inner-test-in-Some-Word-While-default.ensures) c.in_ok-test-in-Some-Word-While-default.ensures.formed.1, c.in_ok-turn-in-Some-Word-While-default.ensures.formed.0), λ e. absurd cc);
      nesting = omega (arith, ap (λ y. expression_nesting (expression_tree y)) c.into_inner-test-in-Some-Word-While-default.ensures, c.in_ok-inner-in-Some-Word-While-default.ensures.deeper.0, c.in_ok-test-in-Some-Word-While-default.ensures.nesting, c.in_ok-turn-in-Some-Word-While-default.ensures.nesting);
      shorter = omega (arith, c.in-Some-Word-While-default.ensures.first.1, c.in_ok-test-in-Some-Word-While-default.ensures.shorter, c.in_ok-turn-in-Some-Word-While-default.ensures.shorter);
      proper = c.in_ok-turn-in-Some-Word-While-default.ensures.proper;
      reads = let T = c.args.text.now in let i = c.args.input.now in
          let e = c.in_ok-inner-in-Some-Word-While-default.inner in
          let n = c.in_ok-inner-in-Some-Word-While-default.ensures.deeper.0 in
          let m2 = then (one T c.args.depth StatementPart [] while_parts (word While) i c.in-Some-Word-While-default.rest.now (λ s l. omega (arith, l, n, c.in_ok-inner-in-Some-Word-While-default.ensures.deeper.1)) (λ s. refl) ((first_of _ (Word While) c.args.input.now c.in-Some-Word-While-default.rest.now (c.in-Some-Word-While-default.field-0-0-is ∙ ap Word c.in-Some-Word-While-default.field-0-0-0-is) c.in-Some-Word-While-default.ensures.first.0).1 T)) (call T c.args.depth e (ExpressionPart whole ∷ TokenPart (a_word Do) ∷ []) (drop 2 while_parts) c.in-Some-Word-While-default.rest.now c.in_ok-test-in-Some-Word-While-default.rest.now (λ s l. omega (arith, l, n)) c.in_ok-test-in-Some-Word-While-default.ensures.reads) in
          let o = c.in_ok-turn-in-Some-Word-While-default.rest.now in
          then
          (then m2
          (call T c.args.depth e (StatementPart ∷ []) (LevelPart ∷ []) c.in_ok-test-in-Some-Word-While-default.rest.now o (λ s l. omega (arith, l, n)) c.in_ok-turn-in-Some-Word-While-default.ensures.reads))
          (level_ends T c.args.depth [] o);
    })
    c.stated-in-Some-Word-While-default.result (λ x. x.0.value) (λ x. x.1.now) c.stated-in-Some-Word-While-default.ensures

pub read_statement-returns-in_ok-turn-in-Some-Word-Repeat-default : goal.read_statement-returns-in_ok-turn-in-Some-Word-Repeat-default
read_statement-returns-in_ok-turn-in-Some-Word-Repeat-default t c =
    stated c.args.text.now c.args.depth StatementPart _ c.args.input.now c.in_ok-turn-in-Some-Word-Repeat-default.rest.now (λ at h. record {
      spans = let T = c.args.text.now in
          (h, (c.in-Some-Word-Repeat-default.rest.now, (one_lexeme T (word Repeat) c.args.input.now c.in-Some-Word-Repeat-default.rest.now c.in-Some-Word-Repeat-default.ensures.passed ((first_of _ (Word Repeat) c.args.input.now c.in-Some-Word-Repeat-default.rest.now (c.in-Some-Word-Repeat-default.field-0-0-is ∙ ap Word c.in-Some-Word-Repeat-default.field-0-0-0-is) c.in-Some-Word-Repeat-default.ensures.first.0).1 T)), c.in_ok-turn-in-Some-Word-Repeat-default.ensures.spans));
      formed = (c.in_ok-turn-in-Some-Word-Repeat-default.ensures.formed.0, λ e. absurd cc);
      nesting = omega (arith, c.in_ok-inner-in-Some-Word-Repeat-default.ensures.deeper.0, c.in_ok-turn-in-Some-Word-Repeat-default.ensures.nesting);
      shorter = omega (arith, c.in-Some-Word-Repeat-default.ensures.first.1, c.in_ok-turn-in-Some-Word-Repeat-default.ensures.shorter);
      proper = c.in_ok-turn-in-Some-Word-Repeat-default.ensures.proper;
      reads = (then (then (one c.args.text.now c.args.depth (StatementPart) ([]) (StatementPart ∷ LevelPart ∷ []) (word Repeat) c.args.input.now c.in-Some-Word-Repeat-default.rest.now (λ s l. omega (arith, l, c.requires.1.1.0, c.in_ok-inner-in-Some-Word-Repeat-default.ensures.deeper.0, c.in_ok-inner-in-Some-Word-Repeat-default.ensures.deeper.1)) (λ s. refl) ((first_of _ (Word Repeat) c.args.input.now c.in-Some-Word-Repeat-default.rest.now (c.in-Some-Word-Repeat-default.field-0-0-is ∙ ap Word c.in-Some-Word-Repeat-default.field-0-0-0-is) c.in-Some-Word-Repeat-default.ensures.first.0).1 c.args.text.now)) (call c.args.text.now c.args.depth c.in_ok-inner-in-Some-Word-Repeat-default.inner (StatementPart ∷ []) (LevelPart ∷ []) c.in-Some-Word-Repeat-default.rest.now c.in_ok-turn-in-Some-Word-Repeat-default.rest.now (λ s l. omega (arith, l, c.requires.1.1.0, c.in_ok-inner-in-Some-Word-Repeat-default.ensures.deeper.0, c.in_ok-inner-in-Some-Word-Repeat-default.ensures.deeper.1)) c.in_ok-turn-in-Some-Word-Repeat-default.ensures.reads)) (level_ends c.args.text.now c.args.depth [] c.in_ok-turn-in-Some-Word-Repeat-default.rest.now));
    })
    c.stated-in-Some-Word-Repeat-default.result (λ x. x.0.value) (λ x. x.1.now) c.stated-in-Some-Word-Repeat-default.ensures

pub read_statement-returns-in_default : goal.read_statement-returns-in_default
read_statement-returns-in_default t c =
    let a : starts other_rules (terminals c.args.text.now c.args.input.now) ≡ false = search rules in
    opened_simple c.args.text.now c.args.depth c.args.input.now (opens_simple c.args.text.now c.args.depth [] c.args.input.now a) c.read_simple-in_default.result (λ x. x.0.value) (λ x. x.1.now) c.read_simple-in_default.ensures

pub read_statement-returns-in_default-past : goal.read_statement-returns-in_default-past
read_statement-returns-in_default-past t c =
    stated c.args.text.now c.args.depth StatementPart _ c.args.input.now c.in_ok-yes-in-Some-Word-If-default.rest.now (λ at h. record {
      spans = let T = c.args.text.now in (h, (_, c.in_ok-test-in-Some-Word-If-default.ensures.spans.0, _, _, one_lexeme T (word If) c.args.input.now c.in-Some-Word-If-default.rest.now c.in-Some-Word-If-default.ensures.passed ((first_of _ (Word If) c.args.input.now c.in-Some-Word-If-default.rest.now (c.in-Some-Word-If-default.field-0-0-is ∙ ap Word c.in-Some-Word-If-default.field-0-0-0-is) c.in-Some-Word-If-default.ensures.first.0).1 T), subst (λ y. ExpressionSpans T y c.in-Some-Word-If-default.rest.now c.in_ok-test-in-Some-Word-If-default.ensures.spans.0) (sym c.into_inner-test.ensures) c.in_ok-test-in-Some-Word-If-default.ensures.spans.1, c.in_ok-test-in-Some-Word-If-default.ensures.spans.2, c.in_ok-yes-in-Some-Word-If-default.ensures.spans, refl));
      formed = (
        (subst (λ e. Formed (expression_tree e)) (sym c.into_inner-test.ensures) c.in_ok-test-in-Some-Word-If-default.ensures.formed.1, c.in_ok-yes-in-Some-Word-If-default.ensures.formed.1 refl, c.in_ok-yes-in-Some-Word-If-default.ensures.formed.0),
        λ e. absurd cc,
      );
      nesting = omega (arith, ap (λ y. expression_nesting (expression_tree y)) c.into_inner-test.ensures, c.in_ok-inner-in-Some-Word-If-default.ensures.deeper.0, c.in_ok-test-in-Some-Word-If-default.ensures.nesting, c.in_ok-yes-in-Some-Word-If-default.ensures.nesting);
      shorter = omega (arith, c.in-Some-Word-If-default.ensures.first.1, c.in_ok-test-in-Some-Word-If-default.ensures.shorter, c.in_ok-yes-in-Some-Word-If-default.ensures.shorter);
      proper = c.in_ok-yes-in-Some-Word-If-default.ensures.proper;
      reads = let T = c.args.text.now in let i = c.args.input.now in
          let e = c.in_ok-inner-in-Some-Word-If-default.inner in
          let n = c.in_ok-inner-in-Some-Word-If-default.ensures.deeper.0 in
          let m3 = then (then (one T c.args.depth StatementPart [] conditional_parts (word If) i c.in-Some-Word-If-default.rest.now (λ s l. omega (arith, l, n, c.in_ok-inner-in-Some-Word-If-default.ensures.deeper.1)) (λ s. refl) ((first_of _ (Word If) c.args.input.now c.in-Some-Word-If-default.rest.now (c.in-Some-Word-If-default.field-0-0-is ∙ ap Word c.in-Some-Word-If-default.field-0-0-0-is) c.in-Some-Word-If-default.ensures.first.0).1 T)) (call T c.args.depth e (ExpressionPart whole ∷ TokenPart (a_word Then) ∷ []) (drop 2 conditional_parts) c.in-Some-Word-If-default.rest.now c.in_ok-test-in-Some-Word-If-default.rest.now (λ s l. omega (arith, l, n)) c.in_ok-test-in-Some-Word-If-default.ensures.reads)) (call T c.args.depth e (SimplePart ∷ []) (drop 3 conditional_parts) c.in_ok-test-in-Some-Word-If-default.rest.now c.in_ok-yes-in-Some-Word-If-default.rest.now (λ s l. omega (arith, l, n)) c.in_ok-yes-in-Some-Word-If-default.ensures.reads) in
          let o = c.in_ok-yes-in-Some-Word-If-default.rest.now in
          then
          (then m3 (ends T c.args.depth ElseTail (a_word Else) _ (LevelPart ∷ []) (Word Else) o refl refl c.in_default-past.ensures.absent))
          (level_ends T c.args.depth [] o);
    })
    c.stated.result (λ x. x.0.value) (λ x. x.1.now) c.stated.ensures

pub read_statement-returns-in_ok-no-in-Some-Word-If-default : goal.read_statement-returns-in_ok-no-in-Some-Word-If-default
read_statement-returns-in_ok-no-in-Some-Word-If-default t c =
    stated c.args.text.now c.args.depth StatementPart _ c.args.input.now c.in_ok-no-in-Some-Word-If-default.rest.now (λ at h. record {
      spans = let T = c.args.text.now in (h, (_, c.in_ok-test-in-Some-Word-If-default.ensures.spans.0, _, _, one_lexeme T (word If) c.args.input.now c.in-Some-Word-If-default.rest.now c.in-Some-Word-If-default.ensures.passed ((first_of _ (Word If) c.args.input.now c.in-Some-Word-If-default.rest.now (c.in-Some-Word-If-default.field-0-0-is ∙ ap Word c.in-Some-Word-If-default.field-0-0-0-is) c.in-Some-Word-If-default.ensures.first.0).1 T), subst (λ y. ExpressionSpans T y c.in-Some-Word-If-default.rest.now c.in_ok-test-in-Some-Word-If-default.ensures.spans.0) (sym c.into_inner-test.ensures) c.in_ok-test-in-Some-Word-If-default.ensures.spans.1, c.in_ok-test-in-Some-Word-If-default.ensures.spans.2, c.in_ok-yes-in-Some-Word-If-default.ensures.spans, (_, one_lexeme T (word Else) c.in_ok-yes-in-Some-Word-If-default.rest.now c.in-Some.after.now c.in-Some.ensures.passed (c.in-Some.ensures.first.1 T), c.in_ok-no-in-Some-Word-If-default.ensures.spans)));
      formed = (
        (subst (λ e. Formed (expression_tree e)) (sym c.into_inner-test.ensures) c.in_ok-test-in-Some-Word-If-default.ensures.formed.1, c.in_ok-yes-in-Some-Word-If-default.ensures.formed.1 refl, c.in_ok-yes-in-Some-Word-If-default.ensures.formed.0, c.in_ok-no-in-Some-Word-If-default.ensures.formed.0),
        λ e. absurd cc,
      );
      nesting = omega (arith, ap (λ y. expression_nesting (expression_tree y)) c.into_inner-test.ensures, c.in_ok-inner-in-Some-Word-If-default.ensures.deeper.0, c.in_ok-test-in-Some-Word-If-default.ensures.nesting, c.in_ok-yes-in-Some-Word-If-default.ensures.nesting, c.in_ok-no-in-Some-Word-If-default.ensures.nesting);
      shorter = omega (arith, c.in-Some-Word-If-default.ensures.first.1, c.in_ok-test-in-Some-Word-If-default.ensures.shorter, c.in_ok-yes-in-Some-Word-If-default.ensures.shorter, c.in-Some.ensures.shorter, c.in_ok-no-in-Some-Word-If-default.ensures.shorter);
      proper = c.in_ok-no-in-Some-Word-If-default.ensures.proper;
      reads = let T = c.args.text.now in let i = c.args.input.now in
          let e = c.in_ok-inner-in-Some-Word-If-default.inner in
          let n = c.in_ok-inner-in-Some-Word-If-default.ensures.deeper.0 in
          let m4 = then (then (then (one T c.args.depth StatementPart [] conditional_parts (word If) i c.in-Some-Word-If-default.rest.now (λ s l. omega (arith, l, n, c.in_ok-inner-in-Some-Word-If-default.ensures.deeper.1)) (λ s. refl) ((first_of _ (Word If) c.args.input.now c.in-Some-Word-If-default.rest.now (c.in-Some-Word-If-default.field-0-0-is ∙ ap Word c.in-Some-Word-If-default.field-0-0-0-is) c.in-Some-Word-If-default.ensures.first.0).1 T)) (call T c.args.depth e (ExpressionPart whole ∷ TokenPart (a_word Then) ∷ []) (drop 2 conditional_parts) c.in-Some-Word-If-default.rest.now c.in_ok-test-in-Some-Word-If-default.rest.now (λ s l. omega (arith, l, n)) c.in_ok-test-in-Some-Word-If-default.ensures.reads)) (call T c.args.depth e (SimplePart ∷ []) (drop 3 conditional_parts) c.in_ok-test-in-Some-Word-If-default.rest.now c.in_ok-yes-in-Some-Word-If-default.rest.now (λ s l. omega (arith, l, n)) c.in_ok-yes-in-Some-Word-If-default.ensures.reads)) (goes T c.args.depth ElseTail (a_word Else) _ (LevelPart ∷ []) (Word Else) c.in_ok-yes-in-Some-Word-If-default.rest.now c.in-Some.after.now (λ s l. omega (arith, l, n, c.in_ok-inner-in-Some-Word-If-default.ensures.deeper.1)) refl refl c.in-Some.ensures.first) in
          let o = c.in_ok-no-in-Some-Word-If-default.rest.now in
          then
          (then m4
          (call T c.args.depth e (StatementPart ∷ []) (LevelPart ∷ []) c.in-Some.after.now o (λ s l. omega (arith, l, n)) c.in_ok-no-in-Some-Word-If-default.ensures.reads))
          (level_ends T c.args.depth [] o);
    })
    c.stated-in-Some-Word-If-default.result (λ x. x.0.value) (λ x. x.1.now) c.stated-in-Some-Word-If-default.ensures

pub read_simple-returns-in_ok-value-in-Some-Word-Print-default : goal.read_simple-returns-in_ok-value-in-Some-Word-Print-default
read_simple-returns-in_ok-value-in-Some-Word-Print-default t c =
    let v = subst (λ e. ExpressionRead c.args.text.now c.args.depth whole e c.in-Some-Word-Print-default.rest.now c.in_ok-value-in-Some-Word-Print-default.rest.now) (sym c.into_inner.ensures) c.in_ok-value-in-Some-Word-Print-default.ensures in
    stated c.args.text.now c.args.depth SimplePart _ c.args.input.now c.in_ok-value-in-Some-Word-Print-default.rest.now (λ at h. record {
      spans = let T = c.args.text.now in
          (h, (c.in-Some-Word-Print-default.rest.now, (one_lexeme T (word Print) c.args.input.now c.in-Some-Word-Print-default.rest.now c.in-Some-Word-Print-default.ensures.passed ((first_of _ (Word Print) c.args.input.now c.in-Some-Word-Print-default.rest.now (c.in-Some-Word-Print-default.field-0-0-is ∙ ap Word c.in-Some-Word-Print-default.field-0-0-0-is) c.in-Some-Word-Print-default.ensures.first.0).1 T)), v.spans));
      formed = (v.formed.1, λ e. tt);
      nesting = v.nesting;
      shorter = omega (arith, c.in-Some-Word-Print-default.ensures.first.1, v.shorter);
      proper = v.proper;
      reads = (then (one c.args.text.now c.args.depth (SimplePart) ([]) (ExpressionPart whole ∷ []) (word Print) c.args.input.now c.in-Some-Word-Print-default.rest.now (λ s l. omega (arith, l, c.requires.1.1.0)) (λ s. refl) ((first_of _ (Word Print) c.args.input.now c.in-Some-Word-Print-default.rest.now (c.in-Some-Word-Print-default.field-0-0-is ∙ ap Word c.in-Some-Word-Print-default.field-0-0-0-is) c.in-Some-Word-Print-default.ensures.first.0).1 c.args.text.now)) (call c.args.text.now c.args.depth c.args.depth (ExpressionPart whole ∷ []) ([]) c.in-Some-Word-Print-default.rest.now c.in_ok-value-in-Some-Word-Print-default.rest.now (λ s l. omega (arith, l, c.requires.1.1.0)) v.reads));
    })
    c.stated-in-Some-Word-Print-default.result (λ x. x.0.value) (λ x. x.1.now) c.stated-in-Some-Word-Print-default.ensures

pub read_simple-returns-in_ok-rest-in-Some-Word-Begin-default : goal.read_simple-returns-in_ok-rest-in-Some-Word-Begin-default
read_simple-returns-in_ok-rest-in-Some-Word-Begin-default t c =
    stated c.args.text.now c.args.depth SimplePart _ c.args.input.now c.in_ok-rest-in-Some-Word-Begin-default.rest.now (λ at h. record {
      spans = let T = c.args.text.now in (h, (_, _, (one_lexeme T (word Begin) c.args.input.now c.in-Some-Word-Begin-default.rest.now c.in-Some-Word-Begin-default.ensures.passed ((first_of _ (Word Begin) c.args.input.now c.in-Some-Word-Begin-default.rest.now (c.in-Some-Word-Begin-default.field-0-0-is ∙ ap Word c.in-Some-Word-Begin-default.field-0-0-0-is) c.in-Some-Word-Begin-default.ensures.first.0).1 T)), statements_row_spans T c.in_ok-statements-in-Some-Word-Begin-default.statements c.in-Some-Word-Begin-default.rest.now c.in_ok-statements-in-Some-Word-Begin-default.rest.now c.in_ok-statements-in-Some-Word-Begin-default.ensures.spans, (one_lexeme T (word End) c.in_ok-statements-in-Some-Word-Begin-default.rest.now c.in_ok-rest-in-Some-Word-Begin-default.rest.now c.in_ok-rest-in-Some-Word-Begin-default.ensures.passed (c.in_ok-rest-in-Some-Word-Begin-default.ensures.first.1 T))));
      formed = (subst FormedStatement (sym (ap block (statements_made c.in_ok-statements-in-Some-Word-Begin-default.statements))) (c.in_ok-statements-in-Some-Word-Begin-default.ensures.formed.0, c.in_ok-statements-in-Some-Word-Begin-default.ensures.formed.1), λ e. subst IsSimple (sym (ap block (statements_made c.in_ok-statements-in-Some-Word-Begin-default.statements))) tt);
      nesting = omega (arith, ap statement_nesting (ap block (statements_made c.in_ok-statements-in-Some-Word-Begin-default.statements)), c.in_ok-inner-in-Some-Word-Begin-default.ensures.deeper.0, c.in_ok-statements-in-Some-Word-Begin-default.ensures.nesting);
      shorter = omega (arith, c.in-Some-Word-Begin-default.ensures.first.1, c.in_ok-statements-in-Some-Word-Begin-default.ensures.shorter, c.in_ok-rest-in-Some-Word-Begin-default.ensures.shorter);
      proper = c.in_ok-rest-in-Some-Word-Begin-default.ensures.proper c.args.text.now c.in_ok-statements-in-Some-Word-Begin-default.ensures.proper;
      reads = (then (then (then (one c.args.text.now c.args.depth (SimplePart) ([]) (StatementPart ∷ StatementsTail ∷ TokenPart (a_word End) ∷ LevelPart ∷ []) (word Begin) c.args.input.now c.in-Some-Word-Begin-default.rest.now (λ s l. omega (arith, l, c.requires.1.1.0, c.in_ok-inner-in-Some-Word-Begin-default.ensures.deeper.0, c.in_ok-inner-in-Some-Word-Begin-default.ensures.deeper.1)) (λ s. refl) ((first_of _ (Word Begin) c.args.input.now c.in-Some-Word-Begin-default.rest.now (c.in-Some-Word-Begin-default.field-0-0-is ∙ ap Word c.in-Some-Word-Begin-default.field-0-0-0-is) c.in-Some-Word-Begin-default.ensures.first.0).1 c.args.text.now)) (call c.args.text.now c.args.depth c.in_ok-inner-in-Some-Word-Begin-default.inner (StatementPart ∷ StatementsTail ∷ []) (TokenPart (a_word End) ∷ LevelPart ∷ []) c.in-Some-Word-Begin-default.rest.now c.in_ok-statements-in-Some-Word-Begin-default.rest.now (λ s l. omega (arith, l, c.requires.1.1.0, c.in_ok-inner-in-Some-Word-Begin-default.ensures.deeper.0, c.in_ok-inner-in-Some-Word-Begin-default.ensures.deeper.1)) c.in_ok-statements-in-Some-Word-Begin-default.ensures.reads)) (expected c.args.text.now c.args.depth (a_word End) (LevelPart ∷ []) (Word End) c.in_ok-statements-in-Some-Word-Begin-default.rest.now c.in_ok-rest-in-Some-Word-Begin-default.rest.now (λ s l. omega (arith, l, c.requires.1.1.0, c.in_ok-inner-in-Some-Word-Begin-default.ensures.deeper.0, c.in_ok-inner-in-Some-Word-Begin-default.ensures.deeper.1)) refl c.in_ok-rest-in-Some-Word-Begin-default.ensures.first)) (level_ends c.args.text.now c.args.depth [] c.in_ok-rest-in-Some-Word-Begin-default.rest.now));
    })
    c.stated-in-Some-Word-Begin-default.result (λ x. x.0.value) (λ x. x.1.now) c.stated-in-Some-Word-Begin-default.ensures

pub read_simple-returns-in_ok-nothing-in_default : goal.read_simple-returns-in_ok-nothing-in_default
read_simple-returns-in_ok-nothing-in_default t c =
    subst (λ s. StatementRead c.args.text.now c.args.depth SimplePart s c.args.input.now c.args.input.now) (sym c.in_ok-nothing-in_default.ensures.ok) record {
      spans = (refl, refl);
      formed = (tt, λ e. tt);
      nesting = omega (arith, c.requires.1.1.0);
      shorter = omega arith;
      proper = c.requires.1.1.1;
      reads = let a : starts simple_rules (terminals c.args.text.now c.args.input.now) ≡ false = search rules in nothing c.args.text.now c.args.depth SimplePart [] c.args.input.now refl a;
    }

pub read_simple-returns-in_err-nothing-in_default : goal.read_simple-returns-in_err-nothing-in_default
read_simple-returns-in_err-nothing-in_default t c = stopped _ _ c.from_residual-in_err-nothing-in_default.result c.from_residual-in_err-nothing-in_default.ensures.1 (λ s l. tt)

pub read_statements-read_statement-requires : goal.read_statements-read_statement-requires
read_statements-read_statement-requires t c = (omega (arith, c.requires.1.0, c.statements.invariant.shorter), (c.requires.1.1.0, c.statements.invariant.proper))

pub read_statements-returns-in_err-statement : goal.read_statements-returns-in_err-statement
read_statements-returns-in_err-statement t c = stopped _ _ c.from_residual.result c.from_residual.ensures.1 (then_stops _ c.statements.invariant.reads
    (call_stops c.args.text.now c.args.depth c.args.depth (StatementPart ∷ []) (StatementsTail ∷ []) c.statements.rest.now _ (λ s l. omega (arith, l, c.requires.1.1.0)) c.in_err-statement.ensures))

pub read_statements-statements-init : goal.read_statements-statements-init
read_statements-statements-init t c =
    let e = c.new-statements.ensures.items in
    record {
      spans = λ s r p. subst (λ ss. SomeStatements c.args.text.now (ss ++ s ∷ []) c.args.input.now r) (sym e) (r, p, refl);
      formed = subst (λ ss. FormedStatements (statement_trees ss)) (sym e) tt;
      nesting = omega (arith, ap (λ ss. statements_nesting (statement_trees ss)) e, c.requires.1.1.0);
      shorter = omega arith;
      proper = c.requires.1.1.1;
      reads = record { fates = λ s l. refl };
    }

pub read_statements-statements-preserved : goal.read_statements-statements-preserved
read_statements-statements-preserved t c =
    let v = subst (λ s. StatementRead c.args.text.now c.args.depth StatementPart s c.statements.rest.now c.in_ok-statement.after.now) (sym c.into_inner.ensures) c.in_ok-statement.ensures in
    let T = c.args.text.now in let i = c.args.input.now in
    let a = c.in_ok-statement.after.now in
    let j = c.in-Some.further.now in
    record {
      spans = λ s r p. some_more (Takes T (sign Semicolon)) (StatementSpans T) _ s i a j r (subst (λ ss. SomeStatements T ss i a) (sym c.in_ok-push.ensures.items) (c.statements.invariant.spans c.into_inner.result a v.spans))
          (one_lexeme T (sign Semicolon) a j c.in-Some.ensures.passed (c.in-Some.ensures.first.1 T)) p;
      formed = formed_statements_next _ _ _ c.in_ok-push.ensures.items c.statements.invariant.formed v.formed.0;
      nesting = nesting_next _ _ _ _ c.in_ok-push.ensures.items c.statements.invariant.nesting v.nesting;
      shorter = omega (arith, c.in-Some.ensures.shorter, v.shorter, c.statements.invariant.shorter);
      proper = c.in-Some.ensures.proper T v.proper;
      reads = next_member T c.args.depth (StatementPart ∷ StatementsTail ∷ []) StatementsTail (a_sign Semicolon) StatementPart [] (SignClass Semicolon) i c.statements.rest.now a j (λ s l. omega (arith, l, c.requires.1.1.0)) (λ s l. l) refl refl c.statements.invariant.reads v.reads c.in-Some.ensures.first;
    }

pub read_statements-returns-in_default : goal.read_statements-returns-in_default
read_statements-returns-in_default t c =
    let v = subst (λ s. StatementRead c.args.text.now c.args.depth StatementPart s c.statements.rest.now c.in_ok-statement.after.now) (sym c.into_inner.ensures) c.in_ok-statement.ensures in
    let T = c.args.text.now in let i = c.args.input.now in
    let a = c.in_ok-statement.after.now in
    let s = some_between (Takes T (sign Semicolon)) (StatementSpans T) _ i a (subst (λ ss. SomeStatements T ss i a) (sym c.in_ok-push.ensures.items) (c.statements.invariant.spans c.into_inner.result a v.spans)) in
    record {
      spans = s;
      formed = (some_next _ _ _ c.in_ok-push.ensures.items, formed_statements_next _ _ _ c.in_ok-push.ensures.items c.statements.invariant.formed v.formed.0);
      nesting = nesting_next _ _ _ _ c.in_ok-push.ensures.items c.statements.invariant.nesting v.nesting;
      shorter = omega (arith, v.shorter, c.statements.invariant.shorter);
      proper = v.proper;
      reads = last_member T c.args.depth (StatementPart ∷ StatementsTail ∷ []) StatementsTail (a_sign Semicolon) StatementPart [] (SignClass Semicolon) i c.statements.rest.now a (λ s l. l) refl refl c.statements.invariant.reads v.reads c.in_default.ensures.absent;
    }

pub read_statements-returns-in_err-push : goal.read_statements-returns-in_err-push
read_statements-returns-in_err-push t c = stopped _ _ c.from_residual-in_err-push.result c.from_residual-in_err-push.ensures.1 (λ s l. tt)

pub read_statements-statements-smaller : goal.read_statements-statements-smaller
read_statements-statements-smaller t c = omega (arith, c.in_ok-statement.ensures.shorter, c.in-Some.ensures.shorter)

pub read_simple-returns-in_err-name-in-Some-Name-default : goal.read_simple-returns-in_err-name-in-Some-Name-default
read_simple-returns-in_err-name-in-Some-Name-default t c = stopped _ _ c.from_residual.result c.from_residual.ensures.1 (memory_alone c.args.text.now c.args.depth (SimplePart ∷ []) c.args.input.now _ (ap (leads a_name) ((first_of _ NameClass c.args.input.now c.in-Some-Name-default.field-0-1.now c.in-Some-Name-default.field-0-0-is c.in-Some-Name-default.ensures.first.0).1 c.args.text.now)) c.in_err-name-in-Some-Name-default.ensures.stop)

pub read_simple-returns-in_err-rest-in-Some-Name-default : goal.read_simple-returns-in_err-rest-in-Some-Name-default
read_simple-returns-in_err-rest-in-Some-Name-default t c = stopped _ _ c.from_residual-in_err-rest-in-Some-Name-default.result c.from_residual-in_err-rest-in-Some-Name-default.ensures.1 (then_stops _ (one c.args.text.now c.args.depth (SimplePart) ([]) (TokenPart (a_sign Becomes) ∷ ExpressionPart whole ∷ []) (name (name_of c.in_ok-name-in-Some-Name-default.name)) c.args.input.now c.in_ok-name-in-Some-Name-default.rest.now (λ s l. omega (arith, l, c.requires.1.1.0)) (λ s. refl) c.in_ok-name-in-Some-Name-default.ensures.words) (unexpected c.args.text.now c.args.depth (a_sign Becomes) (ExpressionPart whole ∷ []) (SignClass Becomes) c.in_ok-name-in-Some-Name-default.rest.now _ refl c.in_err-rest-in-Some-Name-default.ensures.stop))

pub read_simple-read_expression-requires-clause-proper : goal.read_simple-read_expression-requires-clause-proper
read_simple-read_expression-requires-clause-proper t c = c.in_ok-rest-in-Some-Name-default.ensures.proper c.args.text.now c.in_ok-name-in-Some-Name-default.ensures.proper

pub read_simple-returns-in_err-value-in-Some-Name-default : goal.read_simple-returns-in_err-value-in-Some-Name-default
read_simple-returns-in_err-value-in-Some-Name-default t c = stopped _ _ c.from_residual-in_err-value-in-Some-Name-default.result c.from_residual-in_err-value-in-Some-Name-default.ensures.1 (then_stops _ (then (one c.args.text.now c.args.depth (SimplePart) ([]) (TokenPart (a_sign Becomes) ∷ ExpressionPart whole ∷ []) (name (name_of c.in_ok-name-in-Some-Name-default.name)) c.args.input.now c.in_ok-name-in-Some-Name-default.rest.now (λ s l. omega (arith, l, c.requires.1.1.0)) (λ s. refl) c.in_ok-name-in-Some-Name-default.ensures.words) (expected c.args.text.now c.args.depth (a_sign Becomes) (ExpressionPart whole ∷ []) (SignClass Becomes) c.in_ok-name-in-Some-Name-default.rest.now c.in_ok-rest-in-Some-Name-default.rest.now (λ s l. omega (arith, l, c.requires.1.1.0)) refl c.in_ok-rest-in-Some-Name-default.ensures.first)) (call_stops c.args.text.now c.args.depth c.args.depth (ExpressionPart whole ∷ []) ([]) c.in_ok-rest-in-Some-Name-default.rest.now _ (λ s l. omega (arith, l, c.requires.1.1.0)) c.in_err-value-in-Some-Name-default.ensures))

pub read_simple-returns-in_ok-value-in-Some-Name-default : goal.read_simple-returns-in_ok-value-in-Some-Name-default
read_simple-returns-in_ok-value-in-Some-Name-default t c =
    let v = subst (λ e. ExpressionRead c.args.text.now c.args.depth whole e c.in_ok-rest-in-Some-Name-default.rest.now c.in_ok-value-in-Some-Name-default.rest.now) (sym c.into_inner-value.ensures) c.in_ok-value-in-Some-Name-default.ensures in
    stated c.args.text.now c.args.depth SimplePart _ c.args.input.now c.in_ok-value-in-Some-Name-default.rest.now (λ at h. record {
      spans = let T = c.args.text.now in
          (h, (c.in_ok-name-in-Some-Name-default.rest.now, c.in_ok-rest-in-Some-Name-default.rest.now, c.in_ok-name-in-Some-Name-default.ensures.spans, (one_lexeme T (sign Becomes) c.in_ok-name-in-Some-Name-default.rest.now c.in_ok-rest-in-Some-Name-default.rest.now c.in_ok-rest-in-Some-Name-default.ensures.passed (c.in_ok-rest-in-Some-Name-default.ensures.first.1 T)), v.spans));
      formed = (v.formed.1, λ e. tt);
      nesting = v.nesting;
      shorter = omega (arith, c.in_ok-name-in-Some-Name-default.ensures.shorter, c.in_ok-rest-in-Some-Name-default.ensures.shorter, v.shorter);
      proper = v.proper;
      reads = (then (then (one c.args.text.now c.args.depth (SimplePart) ([]) (TokenPart (a_sign Becomes) ∷ ExpressionPart whole ∷ []) (name (name_of c.in_ok-name-in-Some-Name-default.name)) c.args.input.now c.in_ok-name-in-Some-Name-default.rest.now (λ s l. omega (arith, l, c.requires.1.1.0)) (λ s. refl) c.in_ok-name-in-Some-Name-default.ensures.words) (expected c.args.text.now c.args.depth (a_sign Becomes) (ExpressionPart whole ∷ []) (SignClass Becomes) c.in_ok-name-in-Some-Name-default.rest.now c.in_ok-rest-in-Some-Name-default.rest.now (λ s l. omega (arith, l, c.requires.1.1.0)) refl c.in_ok-rest-in-Some-Name-default.ensures.first)) (call c.args.text.now c.args.depth c.args.depth (ExpressionPart whole ∷ []) ([]) c.in_ok-rest-in-Some-Name-default.rest.now c.in_ok-value-in-Some-Name-default.rest.now (λ s l. omega (arith, l, c.requires.1.1.0)) v.reads));
    })
    c.stated.result (λ x. x.0.value) (λ x. x.1.now) c.stated.ensures

pub read_simple-returns-in_err-value-in-Some-Word-Send-default : goal.read_simple-returns-in_err-value-in-Some-Word-Send-default
read_simple-returns-in_err-value-in-Some-Word-Send-default t c =
    let T = c.args.text.now in let i = c.args.input.now in
    let m = one T c.args.depth SimplePart [] send_parts (word Send) i c.in-Some-Word-Send-default.rest.now (λ s l. omega (arith, l, c.requires.1.1.0)) (λ s. refl) ((first_of _ (Word Send) c.args.input.now c.in-Some-Word-Send-default.rest.now (c.in-Some-Word-Send-default.field-0-0-is ∙ ap Word c.in-Some-Word-Send-default.field-0-0-0-is) c.in-Some-Word-Send-default.ensures.first.0).1 T) in
    stopped _ _ c.from_residual-in_err-value-in-Some-Word-Send-default.result c.from_residual-in_err-value-in-Some-Word-Send-default.ensures.1 (then_stops _ m
    (call_stops T c.args.depth c.args.depth (ExpressionPart whole ∷ TokenPart (a_word On) ∷ []) (drop 2 send_parts) c.in-Some-Word-Send-default.rest.now _ (λ s l. l) c.in_err-value-in-Some-Word-Send-default.ensures))

pub read_simple-returns-in_err-name-in-Some-Word-Send-default : goal.read_simple-returns-in_err-name-in-Some-Word-Send-default
read_simple-returns-in_err-name-in-Some-Word-Send-default t c =
    let T = c.args.text.now in let i = c.args.input.now in
    let m = one T c.args.depth SimplePart [] send_parts (word Send) i c.in-Some-Word-Send-default.rest.now (λ s l. omega (arith, l, c.requires.1.1.0)) (λ s. refl) ((first_of _ (Word Send) c.args.input.now c.in-Some-Word-Send-default.rest.now (c.in-Some-Word-Send-default.field-0-0-is ∙ ap Word c.in-Some-Word-Send-default.field-0-0-0-is) c.in-Some-Word-Send-default.ensures.first.0).1 T) in
    let m2 = then m (call T c.args.depth c.args.depth (ExpressionPart whole ∷ TokenPart (a_word On) ∷ []) (drop 2 send_parts) c.in-Some-Word-Send-default.rest.now c.in_ok-value-in-Some-Word-Send-default.rest.now (λ s l. l) c.in_ok-value-in-Some-Word-Send-default.ensures.reads) in
    stopped _ _ c.from_residual-in_err-name-in-Some-Word-Send-default.result c.from_residual-in_err-name-in-Some-Word-Send-default.ensures.1 (then_stops _ m2 (no_name T c.args.depth [] c.in_ok-value-in-Some-Word-Send-default.rest.now _ c.in_err-name-in-Some-Word-Send-default.ensures.stop))

pub read_simple-returns-in_ok-name-in-Some-Word-Send-default : goal.read_simple-returns-in_ok-name-in-Some-Word-Send-default
read_simple-returns-in_ok-name-in-Some-Word-Send-default t c =
    let v = subst (λ e. ExpressionBefore c.args.text.now c.args.depth On e c.in-Some-Word-Send-default.rest.now c.in_ok-value-in-Some-Word-Send-default.rest.now) (sym c.into_inner-value-in-Some-Word-Send-default.ensures) c.in_ok-value-in-Some-Word-Send-default.ensures in
    stated c.args.text.now c.args.depth SimplePart _ c.args.input.now c.in_ok-name-in-Some-Word-Send-default.rest.now (λ at h. record {
      spans = let T = c.args.text.now in (h, (_, _, _, one_lexeme T (word Send) c.args.input.now c.in-Some-Word-Send-default.rest.now c.in-Some-Word-Send-default.ensures.passed ((first_of _ (Word Send) c.args.input.now c.in-Some-Word-Send-default.rest.now (c.in-Some-Word-Send-default.field-0-0-is ∙ ap Word c.in-Some-Word-Send-default.field-0-0-0-is) c.in-Some-Word-Send-default.ensures.first.0).1 T), v.spans.1, v.spans.2, c.in_ok-name-in-Some-Word-Send-default.ensures.spans));
      formed = (v.formed.1, λ e. tt);
      nesting = v.nesting;
      shorter = omega (arith, c.in-Some-Word-Send-default.ensures.first.1, v.shorter, c.in_ok-name-in-Some-Word-Send-default.ensures.shorter);
      proper = c.in_ok-name-in-Some-Word-Send-default.ensures.proper;
      reads = let T = c.args.text.now in let i = c.args.input.now in
          let m = one T c.args.depth SimplePart [] send_parts (word Send) i c.in-Some-Word-Send-default.rest.now (λ s l. omega (arith, l, c.requires.1.1.0)) (λ s. refl) ((first_of _ (Word Send) c.args.input.now c.in-Some-Word-Send-default.rest.now (c.in-Some-Word-Send-default.field-0-0-is ∙ ap Word c.in-Some-Word-Send-default.field-0-0-0-is) c.in-Some-Word-Send-default.ensures.first.0).1 T) in
          let m2 = then m (call T c.args.depth c.args.depth (ExpressionPart whole ∷ TokenPart (a_word On) ∷ []) (drop 2 send_parts) c.in-Some-Word-Send-default.rest.now c.in_ok-value-in-Some-Word-Send-default.rest.now (λ s l. l) v.reads) in
          then m2
          (token T c.args.depth a_name [] (name (name_of c.in_ok-name-in-Some-Word-Send-default.name)) c.in_ok-value-in-Some-Word-Send-default.rest.now c.in_ok-name-in-Some-Word-Send-default.rest.now (λ s l. omega (arith, l, c.requires.1.1.0)) refl c.in_ok-name-in-Some-Word-Send-default.ensures.words);
    })
    c.stated-in-Some-Word-Send-default.result (λ x. x.0.value) (λ x. x.1.now) c.stated-in-Some-Word-Send-default.ensures

pub read_simple-read_before-requires : goal.read_simple-read_before-requires
read_simple-read_before-requires t c =
    record { depth = c.requires.1.1.0; proper = c.in-Some-Word-Send-default.ensures.proper c.args.text.now c.requires.1.1.1; last = refl }
