use Rattle.kahn_syntax.proofs.Parsing.{made_one, nothing, Close, Else, ExpressionPart, ExpressionRead, ExpressionSpans, False, FitsLevel, FormedOperands, If, IsUnsigned, LevelPart, Minus, NameClass, NotWord, Number, Open, OperandsSpan, OperatorsPart, SignClass, Takes, Then, TokenPart, True, Word, a_sign, a_word, ap, arith, at, call, call_stops, choice_parts, deep, denials, drop, stopped, expected, expression_nesting, expression_tree, factor_rules, factors, false, first_of, form_tree, formed_next, hidden-the_row-Operand-0, joined_made, joined_nesting, level_chain, level_ends, level_fits, made, name, name_of, no_operand, no_operands, number_fits, one, one_lexeme, only_memory, opened, opens_chain, opens_denial, opens_whole, operands_made, operands_nesting, operands_nesting_next, operands_next, operands_of, operands_row, operands_row_spans, operator_next, after_alone, after_levels, after_more, after_operator, is_alone, alone_fits, Moves, ◌++◌, true≢false, operator_terminal, ors, refl, refused, relations, rules, rung_of, sign, starts, subst, sums, sym, terminals, then, then_stops, tighter, to_z-of_z, unexpected, vec_len, w64, whole, word, [], ◌∙◌, ◌∷◌, ◌≡◌, Wait, a_name, no_name, token}
use Rattle.kahn_syntax.specs.Grammar.{numeral}
use Rattle.std.specs.Prelude.{◌==◌, length, true}
use Rattle.kahn_syntax.proofs.parser.expression.+expression.Goals as goal

pub read_level-returns-in_err-first : goal.read_level-returns-in_err-first
read_level-returns-in_err-first t c = stopped _ _ c.from_residual.result c.from_residual.ensures.1 (then_stops _ (opens_chain c.args.text.now c.args.depth (rung_of c.args.level) [] c.args.input.now (level_chain c.args.level)) (call_stops c.args.text.now c.args.depth c.args.depth (ExpressionPart (tighter (rung_of c.args.level)) ∷ []) (OperatorsPart (rung_of c.args.level) ∷ []) c.args.input.now _ (λ s l. omega (arith, l, c.requires.1.1.0)) c.in_err-first.ensures))

pub read_level-read_operand-requires-in-Some : goal.read_level-read_operand-requires-in-Some
read_level-read_operand-requires-in-Some t c = (omega (arith, c.requires.1.0, c.in-Some.ensures.shorter, c.operands.invariant.shorter), (c.requires.1.1.0, c.in-Some.ensures.proper c.args.text.now c.operands.invariant.proper))

pub read_level-returns-in_err-expression : goal.read_level-returns-in_err-expression
read_level-returns-in_err-expression t c =
    let T = c.args.text.now in let v = c.args.level in
    stopped _ _ c.from_residual-in_err-expression.result c.from_residual-in_err-expression.ensures.1 (then_stops _
    (then c.operands.invariant.reads (operator_next T c.args.depth v c.in-Some.operator c.operands.rest.now c.in-Some.after.now c.requires.1.1.0 c.in-Some.ensures.ranked (c.in-Some.ensures.first T)))
    (call_stops T c.args.depth c.args.depth (ExpressionPart (tighter (rung_of v)) ∷ []) (after_operator v) c.in-Some.after.now _ (after_levels v c.args.depth) c.in_err-expression.ensures))

pub read_level-operands-init : goal.read_level-operands-init
read_level-operands-init t c =
    record {
      spans = (c.in_ok-first.rest.now, c.in_ok-first.ensures.spans, subst (λ os. OperandsSpan c.args.text.now os c.in_ok-first.rest.now c.in_ok-first.rest.now) (sym c.new-further.ensures.items) refl);
      formed = subst (λ os. FormedOperands (at (rung_of c.args.level)) (operands_of os)) (sym c.new-further.ensures.items) tt;
      single = λ e. c.new-further.ensures.items;
      nesting = omega (arith, ap (λ os. operands_nesting (operands_of os)) c.new-further.ensures.items, c.in_ok-first.ensures.nesting);
      shorter = c.in_ok-first.ensures.shorter;
      proper = c.in_ok-first.ensures.proper;
      reads = (then (opens_chain c.args.text.now c.args.depth (rung_of c.args.level) [] c.args.input.now (level_chain c.args.level)) (call c.args.text.now c.args.depth c.args.depth (ExpressionPart (tighter (rung_of c.args.level)) ∷ []) (OperatorsPart (rung_of c.args.level) ∷ []) c.args.input.now c.in_ok-first.rest.now (λ s l. omega (arith, l, c.requires.1.1.0)) c.in_ok-first.ensures.reads));
    }

pub read_level-operands-preserved : goal.read_level-operands-preserved
read_level-operands-preserved t c =
    let w = subst (λ e. ExpressionRead c.args.text.now c.args.depth (tighter (rung_of c.args.level)) e c.in-Some.after.now c.in_ok-expression.left.now) (sym c.into_inner.ensures) c.in_ok-expression.ensures in
    let T = c.args.text.now in let v = c.args.level in
    let more : is_alone v ≡ false = sym c.is_alone.ensures ∙ c.if-is_alone.false in
    record {
      spans = (c.operands.invariant.spans.0, c.operands.invariant.spans.1, operands_next T _ _ _ _ c.operands.rest.now c.in-Some.after.now c.in_ok-expression.left.now c.in_ok-push.ensures.items c.operands.invariant.spans.2 (one_lexeme T (operator_terminal c.in-Some.operator) c.operands.rest.now c.in-Some.after.now c.in-Some.ensures.passed (c.in-Some.ensures.first T)) w.spans);
      formed = formed_next v _ _ _ c.in_ok-push.ensures.items c.operands.invariant.formed c.in-Some.ensures.ranked w.formed;
      single = λ e. absurd (true≢false (sym e ∙ more));
      nesting = operands_nesting_next _ (expression_tree c.in_ok-first.first.value) _ _ _ c.in_ok-push.ensures.items c.operands.invariant.nesting w.nesting;
      shorter = omega (arith, c.in-Some.ensures.shorter, w.shorter, c.operands.invariant.shorter);
      proper = w.proper;
      reads = subst (λ ps. Moves T c.args.depth (ExpressionPart (rung_of v) ∷ []) ps c.args.input.now c.in_ok-expression.left.now) (after_more v more) (then
          (then c.operands.invariant.reads (operator_next T c.args.depth v c.in-Some.operator c.operands.rest.now c.in-Some.after.now c.requires.1.1.0 c.in-Some.ensures.ranked (c.in-Some.ensures.first T)))
          (call T c.args.depth c.args.depth (ExpressionPart (tighter (rung_of v)) ∷ []) (after_operator v) c.in-Some.after.now c.in_ok-expression.left.now (after_levels v c.args.depth) w.reads));
    }

pub read_denial-returns-in_err-inner : goal.read_denial-returns-in_err-inner
read_denial-returns-in_err-inner t c = stopped _ _ c.from_residual.result c.from_residual.ensures.1 (deep c.args.text.now c.args.depth (ExpressionPart denials) ([]) (ExpressionPart denials ∷ LevelPart ∷ []) (word NotWord) c.args.input.now c.in-Some.rest.now _ (λ s l. omega (arith, l, c.in_err-inner.ensures.stop.0)) (λ s. refl) (c.in-Some.ensures.first c.args.text.now) c.in_err-inner.ensures.stop.1)

pub read_denial-read_denial-requires : goal.read_denial-read_denial-requires
read_denial-read_denial-requires t c = (omega (arith, c.requires.1.0, c.in-Some.ensures.shorter), (c.in_ok-inner.ensures.deeper.1, c.in-Some.ensures.proper c.args.text.now c.requires.1.1.1))

pub read_expression-returns-in_err-inner : goal.read_expression-returns-in_err-inner
read_expression-returns-in_err-inner t c = stopped _ _ c.from_residual.result c.from_residual.ensures.1 (deep c.args.text.now c.args.depth (ExpressionPart whole) ([]) (ExpressionPart whole ∷ TokenPart (a_word Then) ∷ ExpressionPart whole ∷ TokenPart (a_word Else) ∷ ExpressionPart whole ∷ LevelPart ∷ []) (word If) c.args.input.now c.in-Some.rest.now _ (λ s l. omega (arith, l, c.in_err-inner.ensures.stop.0)) (λ s. refl) (c.in-Some.ensures.first.1 c.args.text.now) c.in_err-inner.ensures.stop.1)

pub read_factor-returns-in_err-inner-in-Some-Sign-Minus-default : goal.read_factor-returns-in_err-inner-in-Some-Sign-Minus-default
read_factor-returns-in_err-inner-in-Some-Sign-Minus-default t c = stopped _ _ c.from_residual-in_err-inner-in-Some-Sign-Minus-default.result c.from_residual-in_err-inner-in-Some-Sign-Minus-default.ensures.1 (deep c.args.text.now c.args.depth (ExpressionPart factors) ([]) (ExpressionPart factors ∷ LevelPart ∷ []) (sign Minus) c.args.input.now c.in-Some-Sign-Minus-default.rest.now _ (λ s l. omega (arith, l, c.in_err-inner-in-Some-Sign-Minus-default.ensures.stop.0)) (λ s. refl) ((first_of _ (SignClass Minus) c.args.input.now c.in-Some-Sign-Minus-default.rest.now (c.in-Some-Sign-Minus-default.field-0-0-is ∙ ap SignClass c.in-Some-Sign-Minus-default.field-0-0-0-is) c.in-Some-Sign-Minus-default.ensures.first.0).1 c.args.text.now) c.in_err-inner-in-Some-Sign-Minus-default.ensures.stop.1)

pub read_factor-read_factor-requires : goal.read_factor-read_factor-requires
read_factor-read_factor-requires t c = (omega (arith, c.requires.1.0, c.in-Some-Sign-Minus-default.ensures.first.1), (c.in_ok-inner-in-Some-Sign-Minus-default.ensures.deeper.1, c.in-Some-Sign-Minus-default.ensures.proper c.args.text.now c.requires.1.1.1))

pub read_factor-returns-in_err-inner-in-Some-Sign-Open-default : goal.read_factor-returns-in_err-inner-in-Some-Sign-Open-default
read_factor-returns-in_err-inner-in-Some-Sign-Open-default t c = stopped _ _ c.from_residual-in_err-inner-in-Some-Sign-Open-default.result c.from_residual-in_err-inner-in-Some-Sign-Open-default.ensures.1 (deep c.args.text.now c.args.depth (ExpressionPart factors) ([]) (ExpressionPart whole ∷ TokenPart (a_sign Close) ∷ LevelPart ∷ []) (sign Open) c.args.input.now c.in-Some-Sign-Open-default.rest.now _ (λ s l. omega (arith, l, c.in_err-inner-in-Some-Sign-Open-default.ensures.stop.0)) (λ s. refl) ((first_of _ (SignClass Open) c.args.input.now c.in-Some-Sign-Open-default.rest.now (c.in-Some-Sign-Open-default.field-0-0-is ∙ ap SignClass c.in-Some-Sign-Open-default.field-0-0-0-is) c.in-Some-Sign-Open-default.ensures.first.0).1 c.args.text.now) c.in_err-inner-in-Some-Sign-Open-default.ensures.stop.1)

pub read_factor-read_expression-requires : goal.read_factor-read_expression-requires
read_factor-read_expression-requires t c = (omega (arith, c.requires.1.0, c.in-Some-Sign-Open-default.ensures.first.1), (c.in_ok-inner-in-Some-Sign-Open-default.ensures.deeper.1, c.in-Some-Sign-Open-default.ensures.proper c.args.text.now c.requires.1.1.1))

pub read_factor-returns-in_err-rest-in-Some-Sign-Open-default : goal.read_factor-returns-in_err-rest-in-Some-Sign-Open-default
read_factor-returns-in_err-rest-in-Some-Sign-Open-default t c = stopped _ _ c.from_residual-in_err-rest-in-Some-Sign-Open-default.result c.from_residual-in_err-rest-in-Some-Sign-Open-default.ensures.1 (then_stops _ (then (one c.args.text.now c.args.depth (ExpressionPart factors) ([]) (ExpressionPart whole ∷ TokenPart (a_sign Close) ∷ LevelPart ∷ []) (sign Open) c.args.input.now c.in-Some-Sign-Open-default.rest.now (λ s l. omega (arith, l, c.requires.1.1.0, c.in_ok-inner-in-Some-Sign-Open-default.ensures.deeper.0, c.in_ok-inner-in-Some-Sign-Open-default.ensures.deeper.1)) (λ s. refl) ((first_of _ (SignClass Open) c.args.input.now c.in-Some-Sign-Open-default.rest.now (c.in-Some-Sign-Open-default.field-0-0-is ∙ ap SignClass c.in-Some-Sign-Open-default.field-0-0-0-is) c.in-Some-Sign-Open-default.ensures.first.0).1 c.args.text.now)) (call c.args.text.now c.args.depth c.in_ok-inner-in-Some-Sign-Open-default.inner (ExpressionPart whole ∷ []) (TokenPart (a_sign Close) ∷ LevelPart ∷ []) c.in-Some-Sign-Open-default.rest.now c.in_ok-inside-in-Some-Sign-Open-default.rest.now (λ s l. omega (arith, l, c.requires.1.1.0, c.in_ok-inner-in-Some-Sign-Open-default.ensures.deeper.0, c.in_ok-inner-in-Some-Sign-Open-default.ensures.deeper.1)) c.in_ok-inside-in-Some-Sign-Open-default.ensures.reads)) (unexpected c.args.text.now c.args.depth (a_sign Close) (LevelPart ∷ []) (SignClass Close) c.in_ok-inside-in-Some-Sign-Open-default.rest.now _ refl c.in_err-rest-in-Some-Sign-Open-default.ensures.stop))

pub read_factor-returns-in_err-name-in-Some-Name-default : goal.read_factor-returns-in_err-name-in-Some-Name-default
read_factor-returns-in_err-name-in-Some-Name-default t c = stopped _ _ c.from_residual-in_err-name-in-Some-Name-default.result c.from_residual-in_err-name-in-Some-Name-default.ensures.1 (only_memory c.args.text.now c.args.depth (ExpressionPart factors ∷ []) c.args.input.now _ _ (first_of _ NameClass c.args.input.now c.in-Some-Name-default.field-0-1.now c.in-Some-Name-default.field-0-0-is c.in-Some-Name-default.ensures.first.0) c.in_err-name-in-Some-Name-default.ensures.stop)

pub read_expression-read_before-requires : goal.read_expression-read_before-requires
read_expression-read_before-requires t c =
    (omega (arith, c.requires.1.0, c.in-Some.ensures.shorter), (c.in_ok-inner.ensures.deeper.1, (c.in-Some.ensures.proper c.args.text.now c.requires.1.1.1, refl)))

pub read_expression-read_before-requires-2 : goal.read_expression-read_before-requires-2
read_expression-read_before-requires-2 t c =
    (omega (arith, c.requires.1.0, c.in-Some.ensures.shorter, c.in_ok-test.ensures.shorter), (c.in_ok-inner.ensures.deeper.1, (c.in_ok-test.ensures.proper, refl)))

pub read_expression-read_expression-requires : goal.read_expression-read_expression-requires
read_expression-read_expression-requires t c =
    (omega (arith, c.requires.1.0, c.in-Some.ensures.shorter, c.in_ok-test.ensures.shorter, c.in_ok-yes.ensures.shorter), (c.in_ok-inner.ensures.deeper.1, c.in_ok-yes.ensures.proper))

pub read_expression-returns-in_err-test : goal.read_expression-returns-in_err-test
read_expression-returns-in_err-test t c =
    let T = c.args.text.now in let i = c.args.input.now in
    let e = c.in_ok-inner.inner in
    let n = c.in_ok-inner.ensures.deeper.0 in
    let m = one T c.args.depth (ExpressionPart whole) [] choice_parts (word If) i c.in-Some.rest.now (λ s l. omega (arith, l, n, c.in_ok-inner.ensures.deeper.1)) (λ s. refl) (c.in-Some.ensures.first.1 T) in
    stopped _ _ c.from_residual-in_err-test.result c.from_residual-in_err-test.ensures.1 (then_stops _ m
    (call_stops T c.args.depth e (ExpressionPart whole ∷ TokenPart (a_word Then) ∷ []) (drop 2 choice_parts) c.in-Some.rest.now _ (λ s l. omega (arith, l, n)) c.in_err-test.ensures))

pub read_expression-returns-in_err-yes : goal.read_expression-returns-in_err-yes
read_expression-returns-in_err-yes t c =
    let T = c.args.text.now in let i = c.args.input.now in
    let e = c.in_ok-inner.inner in
    let n = c.in_ok-inner.ensures.deeper.0 in
    let m2 = then (one T c.args.depth (ExpressionPart whole) [] choice_parts (word If) i c.in-Some.rest.now (λ s l. omega (arith, l, n, c.in_ok-inner.ensures.deeper.1)) (λ s. refl) (c.in-Some.ensures.first.1 T)) (call T c.args.depth e (ExpressionPart whole ∷ TokenPart (a_word Then) ∷ []) (drop 2 choice_parts) c.in-Some.rest.now c.in_ok-test.rest.now (λ s l. omega (arith, l, n)) c.in_ok-test.ensures.reads) in
    stopped _ _ c.from_residual-in_err-yes.result c.from_residual-in_err-yes.ensures.1 (then_stops _ m2
    (call_stops T c.args.depth e (ExpressionPart whole ∷ TokenPart (a_word Else) ∷ []) (drop 4 choice_parts) c.in_ok-test.rest.now _ (λ s l. omega (arith, l, n)) c.in_err-yes.ensures))

pub read_expression-returns-in_err-no : goal.read_expression-returns-in_err-no
read_expression-returns-in_err-no t c =
    let T = c.args.text.now in let i = c.args.input.now in
    let e = c.in_ok-inner.inner in
    let n = c.in_ok-inner.ensures.deeper.0 in
    let m3 = then (then (one T c.args.depth (ExpressionPart whole) [] choice_parts (word If) i c.in-Some.rest.now (λ s l. omega (arith, l, n, c.in_ok-inner.ensures.deeper.1)) (λ s. refl) (c.in-Some.ensures.first.1 T)) (call T c.args.depth e (ExpressionPart whole ∷ TokenPart (a_word Then) ∷ []) (drop 2 choice_parts) c.in-Some.rest.now c.in_ok-test.rest.now (λ s l. omega (arith, l, n)) c.in_ok-test.ensures.reads)) (call T c.args.depth e (ExpressionPart whole ∷ TokenPart (a_word Else) ∷ []) (drop 4 choice_parts) c.in_ok-test.rest.now c.in_ok-yes.rest.now (λ s l. omega (arith, l, n)) c.in_ok-yes.ensures.reads) in
    stopped _ _ c.from_residual-in_err-no.result c.from_residual-in_err-no.ensures.1 (then_stops _ m3
    (call_stops T c.args.depth e (ExpressionPart whole ∷ []) (LevelPart ∷ []) c.in_ok-yes.rest.now _ (λ s l. omega (arith, l, n)) c.in_err-no.ensures))

pub read_before-read_expression-requires : goal.read_before-read_expression-requires
read_before-read_expression-requires t c =
    (omega (arith, c.requires.1.0), (c.requires.1.1.0, c.requires.1.1.1.0))

pub read_before-returns-in_err-expression : goal.read_before-returns-in_err-expression
read_before-returns-in_err-expression t c = stopped _ _ c.from_residual.result c.from_residual.ensures.1 (call_stops c.args.text.now c.args.depth c.args.depth (ExpressionPart whole ∷ []) (TokenPart (a_word c.args.last) ∷ []) c.args.input.now _ (λ s l. l)
    c.in_err-expression.ensures)

pub read_before-returns-in_err-rest : goal.read_before-returns-in_err-rest
read_before-returns-in_err-rest t c =
    let T = c.args.text.now in
    let k = TokenPart (a_word c.args.last) ∷ [] in
    let m = call T c.args.depth c.args.depth (ExpressionPart whole ∷ []) k c.args.input.now c.in_ok-expression.rest.now (λ s l. l) c.in_ok-expression.ensures.reads in
    stopped _ _ c.from_residual-in_err-rest.result c.from_residual-in_err-rest.ensures.1 (then_stops _ m
    (unexpected T c.args.depth (a_word c.args.last) [] (Word c.args.last) c.in_ok-expression.rest.now _ c.requires.1.1.1.1 c.in_err-rest.ensures.stop))

pub read_expression-returns-in_default : goal.read_expression-returns-in_default
read_expression-returns-in_default t c =
    opened c.args.text.now c.args.depth whole ors c.args.input.now (omega arith) (opens_whole c.args.text.now c.args.depth [] c.args.input.now c.in_default.ensures.absent) c.read_level.result (λ x. x.0.value) (λ x. x.1.now) c.read_level.ensures

pub read_before-returns : goal.read_before-returns
read_before-returns t c =
    let T = c.args.text.now in record {
      spans = (_, c.in_ok-expression.ensures.spans, one_lexeme T (word c.args.last) c.in_ok-expression.rest.now c.in_ok-rest.rest.now c.in_ok-rest.ensures.passed (c.in_ok-rest.ensures.first.1 T));
      formed = c.in_ok-expression.ensures.formed;
      nesting = c.in_ok-expression.ensures.nesting;
      shorter = omega (arith, c.in_ok-expression.ensures.shorter, c.in_ok-rest.ensures.shorter);
      proper = c.in_ok-rest.ensures.proper T c.in_ok-expression.ensures.proper;
      reads = let T = c.args.text.now in
          let k = TokenPart (a_word c.args.last) ∷ [] in
          let m = call T c.args.depth c.args.depth (ExpressionPart whole ∷ []) k c.args.input.now c.in_ok-expression.rest.now (λ s l. l) c.in_ok-expression.ensures.reads in
          then m
          (expected T c.args.depth (a_word c.args.last) [] (Word c.args.last) c.in_ok-expression.rest.now c.in_ok-rest.rest.now (λ s l. omega (arith, l, c.requires.1.1.0)) c.requires.1.1.1.1
          c.in_ok-rest.ensures.first);
    }

pub read_denial-returns-in_default : goal.read_denial-returns-in_default
read_denial-returns-in_default t c =
    opened c.args.text.now c.args.depth denials relations c.args.input.now (omega arith) (opens_denial c.args.text.now c.args.depth [] c.args.input.now (c.in_default.ensures.lacks c.args.text.now)) c.read_level.result (λ x. x.0.value) (λ x. x.1.now) c.read_level.ensures

pub read_factor-returns-in_default : goal.read_factor-returns-in_default
read_factor-returns-in_default t c =
    let a : starts factor_rules (terminals c.args.text.now c.args.input.now) ≡ false = search rules in refused c.args.text.now c.args.depth (ExpressionPart factors) [] c.args.input.now _ refl a refl

pub read_denial-returns-in_err-operand : goal.read_denial-returns-in_err-operand
read_denial-returns-in_err-operand t c = stopped _ _ c.from_residual-in_err-operand.result c.from_residual-in_err-operand.ensures.1 (then_stops _
    (one c.args.text.now c.args.depth (ExpressionPart denials) [] (ExpressionPart denials ∷ LevelPart ∷ []) (word NotWord) c.args.input.now c.in-Some.rest.now (λ s l. omega (arith, l, c.in_ok-inner.ensures.deeper.0, c.in_ok-inner.ensures.deeper.1)) (λ s. refl) (c.in-Some.ensures.first c.args.text.now))
    (call_stops c.args.text.now c.args.depth c.in_ok-inner.inner (ExpressionPart denials ∷ []) (LevelPart ∷ []) c.in-Some.rest.now _ (λ s l. omega (arith, l, c.in_ok-inner.ensures.deeper.0)) c.in_err-operand.ensures))

pub read_factor-returns-in_err-operand-in-Some-Sign-Minus-default : goal.read_factor-returns-in_err-operand-in-Some-Sign-Minus-default
read_factor-returns-in_err-operand-in-Some-Sign-Minus-default t c = stopped _ _ c.from_residual-in_err-operand-in-Some-Sign-Minus-default.result c.from_residual-in_err-operand-in-Some-Sign-Minus-default.ensures.1 (then_stops _
    (one c.args.text.now c.args.depth (ExpressionPart factors) [] (ExpressionPart factors ∷ LevelPart ∷ []) (sign Minus) c.args.input.now c.in-Some-Sign-Minus-default.rest.now (λ s l. omega (arith, l, c.in_ok-inner-in-Some-Sign-Minus-default.ensures.deeper.0, c.in_ok-inner-in-Some-Sign-Minus-default.ensures.deeper.1)) (λ s. refl) ((first_of _ (SignClass Minus) c.args.input.now c.in-Some-Sign-Minus-default.rest.now (c.in-Some-Sign-Minus-default.field-0-0-is ∙ ap SignClass c.in-Some-Sign-Minus-default.field-0-0-0-is) c.in-Some-Sign-Minus-default.ensures.first.0).1 c.args.text.now))
    (call_stops c.args.text.now c.args.depth c.in_ok-inner-in-Some-Sign-Minus-default.inner (ExpressionPart factors ∷ []) (LevelPart ∷ []) c.in-Some-Sign-Minus-default.rest.now _ (λ s l. omega (arith, l, c.in_ok-inner-in-Some-Sign-Minus-default.ensures.deeper.0)) c.in_err-operand-in-Some-Sign-Minus-default.ensures))

pub read_factor-returns-in_err-inside-in-Some-Sign-Open-default : goal.read_factor-returns-in_err-inside-in-Some-Sign-Open-default
read_factor-returns-in_err-inside-in-Some-Sign-Open-default t c = stopped _ _ c.from_residual-in_err-inside-in-Some-Sign-Open-default.result c.from_residual-in_err-inside-in-Some-Sign-Open-default.ensures.1 (then_stops _
    (one c.args.text.now c.args.depth (ExpressionPart factors) [] (ExpressionPart whole ∷ TokenPart (a_sign Close) ∷ LevelPart ∷ []) (sign Open) c.args.input.now c.in-Some-Sign-Open-default.rest.now (λ s l. omega (arith, l, c.in_ok-inner-in-Some-Sign-Open-default.ensures.deeper.0, c.in_ok-inner-in-Some-Sign-Open-default.ensures.deeper.1)) (λ s. refl) ((first_of _ (SignClass Open) c.args.input.now c.in-Some-Sign-Open-default.rest.now (c.in-Some-Sign-Open-default.field-0-0-is ∙ ap SignClass c.in-Some-Sign-Open-default.field-0-0-0-is) c.in-Some-Sign-Open-default.ensures.first.0).1 c.args.text.now))
    (call_stops c.args.text.now c.args.depth c.in_ok-inner-in-Some-Sign-Open-default.inner (ExpressionPart whole ∷ []) (TokenPart (a_sign Close) ∷ LevelPart ∷ []) c.in-Some-Sign-Open-default.rest.now _ (λ s l. omega (arith, l, c.in_ok-inner-in-Some-Sign-Open-default.ensures.deeper.0)) c.in_err-inside-in-Some-Sign-Open-default.ensures))

pub read_expression-returns : goal.read_expression-returns
read_expression-returns t c =
    let T = c.args.text.now in
    made T c.args.depth whole _ c.args.input.now c.in_ok-no.rest.now (λ at h. record {
      spans = (h, (_, c.in_ok-test.ensures.spans.0, _, c.in_ok-yes.ensures.spans.0, _, one_lexeme T (word If) c.args.input.now c.in-Some.rest.now c.in-Some.ensures.passed (c.in-Some.ensures.first.1 T), c.in_ok-test.ensures.spans.1, c.in_ok-test.ensures.spans.2, c.in_ok-yes.ensures.spans.1, c.in_ok-yes.ensures.spans.2, c.in_ok-no.ensures.spans));
      formed = (omega arith, (c.in_ok-test.ensures.formed.1, c.in_ok-yes.ensures.formed.1, c.in_ok-no.ensures.formed.1));
      nesting = omega (arith, c.in_ok-inner.ensures.deeper.0, c.in_ok-test.ensures.nesting, c.in_ok-yes.ensures.nesting, c.in_ok-no.ensures.nesting);
      shorter = omega (arith, c.in-Some.ensures.shorter, c.in_ok-test.ensures.shorter, c.in_ok-yes.ensures.shorter, c.in_ok-no.ensures.shorter);
      proper = c.in_ok-no.ensures.proper;
      reads = let T = c.args.text.now in let i = c.args.input.now in
          let e = c.in_ok-inner.inner in
          let n = c.in_ok-inner.ensures.deeper.0 in
          let m3 = then (then (one T c.args.depth (ExpressionPart whole) [] choice_parts (word If) i c.in-Some.rest.now (λ s l. omega (arith, l, n, c.in_ok-inner.ensures.deeper.1)) (λ s. refl) (c.in-Some.ensures.first.1 T)) (call T c.args.depth e (ExpressionPart whole ∷ TokenPart (a_word Then) ∷ []) (drop 2 choice_parts) c.in-Some.rest.now c.in_ok-test.rest.now (λ s l. omega (arith, l, n)) c.in_ok-test.ensures.reads)) (call T c.args.depth e (ExpressionPart whole ∷ TokenPart (a_word Else) ∷ []) (drop 4 choice_parts) c.in_ok-test.rest.now c.in_ok-yes.rest.now (λ s l. omega (arith, l, n)) c.in_ok-yes.ensures.reads) in
          let o = c.in_ok-no.rest.now in
          then
          (then m3
          (call T c.args.depth e (ExpressionPart whole ∷ []) (LevelPart ∷ []) c.in_ok-yes.rest.now o (λ s l. omega (arith, l, n)) c.in_ok-no.ensures.reads))
          (level_ends T c.args.depth [] o);
    })
    c.made.result (λ x. x.0.value) (λ x. x.1.now) c.made.ensures

pub read_denial-returns : goal.read_denial-returns
read_denial-returns t c =
    let T = c.args.text.now in
    made T c.args.depth denials _ c.args.input.now c.in_ok-operand.rest.now (λ at h. record {
      spans = (h, (c.in-Some.rest.now, one_lexeme T (word NotWord) c.args.input.now c.in-Some.rest.now c.in-Some.ensures.passed (c.in-Some.ensures.first T), c.in_ok-operand.ensures.spans));
      formed = (omega arith, c.in_ok-operand.ensures.formed);
      nesting = omega (arith, c.in_ok-inner.ensures.deeper.0, c.in_ok-operand.ensures.nesting);
      shorter = omega (arith, c.in-Some.ensures.shorter, c.in_ok-operand.ensures.shorter);
      proper = c.in_ok-operand.ensures.proper;
      reads = (then (then (one c.args.text.now c.args.depth (ExpressionPart denials) ([]) (ExpressionPart denials ∷ LevelPart ∷ []) (word NotWord) c.args.input.now c.in-Some.rest.now (λ s l. omega (arith, l, c.requires.1.1.0, c.in_ok-inner.ensures.deeper.0, c.in_ok-inner.ensures.deeper.1)) (λ s. refl) (c.in-Some.ensures.first c.args.text.now)) (call c.args.text.now c.args.depth c.in_ok-inner.inner (ExpressionPart denials ∷ []) (LevelPart ∷ []) c.in-Some.rest.now c.in_ok-operand.rest.now (λ s l. omega (arith, l, c.requires.1.1.0, c.in_ok-inner.ensures.deeper.0, c.in_ok-inner.ensures.deeper.1)) c.in_ok-operand.ensures.reads)) (level_ends c.args.text.now c.args.depth [] c.in_ok-operand.rest.now));
    })
    c.made.result (λ x. x.0.value) (λ x. x.1.now) c.made.ensures

pub read_level-returns-then-is_empty : goal.read_level-returns-then-is_empty
read_level-returns-then-is_empty t c =
    let none : length c.operands.further.items ≡ 0 = search rules in
    let T = c.args.text.now in
    let i = c.operands.invariant in
    record {
      spans = subst (ExpressionSpans T c.in_ok-first.first.value c.args.input.now) (no_operands T c.operands.further.items i.spans.0 c.operands.rest.now none i.spans.2) i.spans.1;
      formed = level_fits c.args.level _ no_operand (λ a. refl) c.in_ok-first.ensures.formed tt;
      nesting = c.in_ok-first.ensures.nesting;
      shorter = i.shorter;
      proper = i.proper;
      reads = then i.reads (nothing T c.args.depth (OperatorsPart (rung_of c.args.level)) [] c.operands.rest.now refl (c.in_default.ensures.lacks T));
    }

pub read_level-returns : goal.read_level-returns
read_level-returns t c =
    let T = c.args.text.now in
    let i = c.operands.invariant in
    let first = c.in_ok-first.first.value in
    let further = c.operands.further in
    let l : vec_len further ≡ length further.items = search rules in
    let m = joined_made (form_tree first.form) further.items (operands_row (hidden-the_row-Operand-0 further)) (operands_made further)
    (λ e. let t : c.is_empty.result ≡ true = c.is_empty.ensures ∙ ap (λ n. n == 0) (l ∙ ap length e) in cc (t, c.if-is_empty.false)) in
    made T c.args.depth (rung_of c.args.level) _ c.args.input.now c.operands.rest.now (λ span h. record {
      spans = (h, (i.spans.0, i.spans.1, operands_row_spans T further i.spans.0 c.operands.rest.now i.spans.2));
      formed = subst (FitsLevel (at (rung_of c.args.level))) (sym m) (level_fits c.args.level _ _ (λ a. ap operands_of (i.single a)) c.in_ok-first.ensures.formed i.formed);
      nesting = omega (arith, ap expression_nesting m, joined_nesting (expression_tree first) (operands_of further.items), i.nesting);
      shorter = i.shorter;
      proper = i.proper;
      reads = then i.reads (nothing T c.args.depth (OperatorsPart (rung_of c.args.level)) [] c.operands.rest.now refl (c.in_default.ensures.lacks T));
    })
    c.made-2.result (λ x. x.0.value) (λ x. x.1.now) c.made-2.ensures

pub read_factor-returns-in-Some-Number-default : goal.read_factor-returns-in-Some-Number-default
read_factor-returns-in-Some-Number-default t c =
    let T = c.args.text.now in
    let u = subst IsUnsigned c.in-Some-Number-default.field-0-0-is (c.in-Some-Number-default.ensures.unsigned T c.requires.1.1.1) in
    made_one T c.args.depth _ (numeral c.in-Some-Number-default.number) c.args.input.now c.in-Some-Number-default.rest.now c.made.result (λ x. x.0.value) (λ x. x.1.now) c.made.ensures c.requires.1.1.0
    (subst (λ z. Takes T (numeral z) c.args.input.now c.in-Some-Number-default.rest.now) (sym (to_z-of_z w64 c.in-Some-Number-default.number (number_fits c.in-Some-Number-default.number u.0 u.1 u.2))) (one_lexeme T (numeral c.in-Some-Number-default.number) c.args.input.now c.in-Some-Number-default.rest.now c.in-Some-Number-default.ensures.passed ((first_of _ (Number c.in-Some-Number-default.number) c.args.input.now c.in-Some-Number-default.rest.now c.in-Some-Number-default.field-0-0-is c.in-Some-Number-default.ensures.first.0).1 T)))
    (omega arith, tt) refl c.in-Some-Number-default.ensures.first.1 (c.in-Some-Number-default.ensures.proper T c.requires.1.1.1) (λ s. refl) ((first_of _ (Number c.in-Some-Number-default.number) c.args.input.now c.in-Some-Number-default.rest.now c.in-Some-Number-default.field-0-0-is c.in-Some-Number-default.ensures.first.0).1 T)

pub read_factor-returns-in-Some-Word-True-default : goal.read_factor-returns-in-Some-Word-True-default
read_factor-returns-in-Some-Word-True-default t c =
    let T = c.args.text.now in
    made_one T c.args.depth _ (word True) c.args.input.now c.in-Some-Word-True-default.rest.now c.made-in-Some-Word-True-default.result (λ x. x.0.value) (λ x. x.1.now) c.made-in-Some-Word-True-default.ensures c.requires.1.1.0
    (one_lexeme T (word True) c.args.input.now c.in-Some-Word-True-default.rest.now c.in-Some-Word-True-default.ensures.passed ((first_of _ (Word True) c.args.input.now c.in-Some-Word-True-default.rest.now (c.in-Some-Word-True-default.field-0-0-is ∙ ap Word c.in-Some-Word-True-default.field-0-0-0-is) c.in-Some-Word-True-default.ensures.first.0).1 T)) (omega arith, tt) refl c.in-Some-Word-True-default.ensures.first.1 (c.in-Some-Word-True-default.ensures.proper T c.requires.1.1.1) (λ s. refl) ((first_of _ (Word True) c.args.input.now c.in-Some-Word-True-default.rest.now (c.in-Some-Word-True-default.field-0-0-is ∙ ap Word c.in-Some-Word-True-default.field-0-0-0-is) c.in-Some-Word-True-default.ensures.first.0).1 T)

pub read_factor-returns-in-Some-Word-False-default : goal.read_factor-returns-in-Some-Word-False-default
read_factor-returns-in-Some-Word-False-default t c =
    let T = c.args.text.now in
    made_one T c.args.depth _ (word False) c.args.input.now c.in-Some-Word-False-default.rest.now c.made-in-Some-Word-False-default.result (λ x. x.0.value) (λ x. x.1.now) c.made-in-Some-Word-False-default.ensures c.requires.1.1.0
    (one_lexeme T (word False) c.args.input.now c.in-Some-Word-False-default.rest.now c.in-Some-Word-False-default.ensures.passed ((first_of _ (Word False) c.args.input.now c.in-Some-Word-False-default.rest.now (c.in-Some-Word-False-default.field-0-0-is ∙ ap Word c.in-Some-Word-False-default.field-0-0-0-is) c.in-Some-Word-False-default.ensures.first.0).1 T)) (omega arith, tt) refl c.in-Some-Word-False-default.ensures.first.1 (c.in-Some-Word-False-default.ensures.proper T c.requires.1.1.1) (λ s. refl) ((first_of _ (Word False) c.args.input.now c.in-Some-Word-False-default.rest.now (c.in-Some-Word-False-default.field-0-0-is ∙ ap Word c.in-Some-Word-False-default.field-0-0-0-is) c.in-Some-Word-False-default.ensures.first.0).1 T)

pub read_factor-returns-in_ok-operand-in-Some-Sign-Minus-default : goal.read_factor-returns-in_ok-operand-in-Some-Sign-Minus-default
read_factor-returns-in_ok-operand-in-Some-Sign-Minus-default t c =
    let T = c.args.text.now in
    made T c.args.depth factors _ c.args.input.now c.in_ok-operand-in-Some-Sign-Minus-default.rest.now (λ at h. record {
      spans = (h, (c.in-Some-Sign-Minus-default.rest.now, (one_lexeme T (sign Minus) c.args.input.now c.in-Some-Sign-Minus-default.rest.now c.in-Some-Sign-Minus-default.ensures.passed ((first_of _ (SignClass Minus) c.args.input.now c.in-Some-Sign-Minus-default.rest.now (c.in-Some-Sign-Minus-default.field-0-0-is ∙ ap SignClass c.in-Some-Sign-Minus-default.field-0-0-0-is) c.in-Some-Sign-Minus-default.ensures.first.0).1 T)), c.in_ok-operand-in-Some-Sign-Minus-default.ensures.spans));
      formed = (omega arith, c.in_ok-operand-in-Some-Sign-Minus-default.ensures.formed);
      nesting = omega (arith, c.in_ok-inner-in-Some-Sign-Minus-default.ensures.deeper.0, c.in_ok-operand-in-Some-Sign-Minus-default.ensures.nesting);
      shorter = omega (arith, c.in-Some-Sign-Minus-default.ensures.first.1, c.in_ok-operand-in-Some-Sign-Minus-default.ensures.shorter);
      proper = c.in_ok-operand-in-Some-Sign-Minus-default.ensures.proper;
      reads = (then (then (one c.args.text.now c.args.depth (ExpressionPart factors) ([]) (ExpressionPart factors ∷ LevelPart ∷ []) (sign Minus) c.args.input.now c.in-Some-Sign-Minus-default.rest.now (λ s l. omega (arith, l, c.requires.1.1.0, c.in_ok-inner-in-Some-Sign-Minus-default.ensures.deeper.0, c.in_ok-inner-in-Some-Sign-Minus-default.ensures.deeper.1)) (λ s. refl) ((first_of _ (SignClass Minus) c.args.input.now c.in-Some-Sign-Minus-default.rest.now (c.in-Some-Sign-Minus-default.field-0-0-is ∙ ap SignClass c.in-Some-Sign-Minus-default.field-0-0-0-is) c.in-Some-Sign-Minus-default.ensures.first.0).1 c.args.text.now)) (call c.args.text.now c.args.depth c.in_ok-inner-in-Some-Sign-Minus-default.inner (ExpressionPart factors ∷ []) (LevelPart ∷ []) c.in-Some-Sign-Minus-default.rest.now c.in_ok-operand-in-Some-Sign-Minus-default.rest.now (λ s l. omega (arith, l, c.requires.1.1.0, c.in_ok-inner-in-Some-Sign-Minus-default.ensures.deeper.0, c.in_ok-inner-in-Some-Sign-Minus-default.ensures.deeper.1)) c.in_ok-operand-in-Some-Sign-Minus-default.ensures.reads)) (level_ends c.args.text.now c.args.depth [] c.in_ok-operand-in-Some-Sign-Minus-default.rest.now));
    })
    c.made-in-Some-Sign-Minus-default.result (λ x. x.0.value) (λ x. x.1.now) c.made-in-Some-Sign-Minus-default.ensures

pub read_factor-returns-in_ok-rest-in-Some-Sign-Open-default : goal.read_factor-returns-in_ok-rest-in-Some-Sign-Open-default
read_factor-returns-in_ok-rest-in-Some-Sign-Open-default t c =
    let T = c.args.text.now in
    made T c.args.depth factors _ c.args.input.now c.in_ok-rest-in-Some-Sign-Open-default.rest.now (λ at h. record {
      spans = (h, (c.in-Some-Sign-Open-default.rest.now, c.in_ok-inside-in-Some-Sign-Open-default.rest.now, (one_lexeme T (sign Open) c.args.input.now c.in-Some-Sign-Open-default.rest.now c.in-Some-Sign-Open-default.ensures.passed ((first_of _ (SignClass Open) c.args.input.now c.in-Some-Sign-Open-default.rest.now (c.in-Some-Sign-Open-default.field-0-0-is ∙ ap SignClass c.in-Some-Sign-Open-default.field-0-0-0-is) c.in-Some-Sign-Open-default.ensures.first.0).1 T)), c.in_ok-inside-in-Some-Sign-Open-default.ensures.spans, (one_lexeme T (sign Close) c.in_ok-inside-in-Some-Sign-Open-default.rest.now c.in_ok-rest-in-Some-Sign-Open-default.rest.now c.in_ok-rest-in-Some-Sign-Open-default.ensures.passed (c.in_ok-rest-in-Some-Sign-Open-default.ensures.first.1 T))));
      formed = (omega arith, c.in_ok-inside-in-Some-Sign-Open-default.ensures.formed.1);
      nesting = omega (arith, c.in_ok-inner-in-Some-Sign-Open-default.ensures.deeper.0, c.in_ok-inside-in-Some-Sign-Open-default.ensures.nesting);
      shorter = omega (arith, c.in-Some-Sign-Open-default.ensures.first.1, c.in_ok-inside-in-Some-Sign-Open-default.ensures.shorter, c.in_ok-rest-in-Some-Sign-Open-default.ensures.shorter);
      proper = c.in_ok-rest-in-Some-Sign-Open-default.ensures.proper c.args.text.now c.in_ok-inside-in-Some-Sign-Open-default.ensures.proper;
      reads = (then (then (then (one c.args.text.now c.args.depth (ExpressionPart factors) ([]) (ExpressionPart whole ∷ TokenPart (a_sign Close) ∷ LevelPart ∷ []) (sign Open) c.args.input.now c.in-Some-Sign-Open-default.rest.now (λ s l. omega (arith, l, c.requires.1.1.0, c.in_ok-inner-in-Some-Sign-Open-default.ensures.deeper.0, c.in_ok-inner-in-Some-Sign-Open-default.ensures.deeper.1)) (λ s. refl) ((first_of _ (SignClass Open) c.args.input.now c.in-Some-Sign-Open-default.rest.now (c.in-Some-Sign-Open-default.field-0-0-is ∙ ap SignClass c.in-Some-Sign-Open-default.field-0-0-0-is) c.in-Some-Sign-Open-default.ensures.first.0).1 c.args.text.now)) (call c.args.text.now c.args.depth c.in_ok-inner-in-Some-Sign-Open-default.inner (ExpressionPart whole ∷ []) (TokenPart (a_sign Close) ∷ LevelPart ∷ []) c.in-Some-Sign-Open-default.rest.now c.in_ok-inside-in-Some-Sign-Open-default.rest.now (λ s l. omega (arith, l, c.requires.1.1.0, c.in_ok-inner-in-Some-Sign-Open-default.ensures.deeper.0, c.in_ok-inner-in-Some-Sign-Open-default.ensures.deeper.1)) c.in_ok-inside-in-Some-Sign-Open-default.ensures.reads)) (expected c.args.text.now c.args.depth (a_sign Close) (LevelPart ∷ []) (SignClass Close) c.in_ok-inside-in-Some-Sign-Open-default.rest.now c.in_ok-rest-in-Some-Sign-Open-default.rest.now (λ s l. omega (arith, l, c.requires.1.1.0, c.in_ok-inner-in-Some-Sign-Open-default.ensures.deeper.0, c.in_ok-inner-in-Some-Sign-Open-default.ensures.deeper.1)) refl c.in_ok-rest-in-Some-Sign-Open-default.ensures.first)) (level_ends c.args.text.now c.args.depth [] c.in_ok-rest-in-Some-Sign-Open-default.rest.now));
    })
    c.made-in-Some-Sign-Open-default.result (λ x. x.0.value) (λ x. x.1.now) c.made-in-Some-Sign-Open-default.ensures

pub read_factor-returns-in_ok-name-in-Some-Name-default : goal.read_factor-returns-in_ok-name-in-Some-Name-default
read_factor-returns-in_ok-name-in-Some-Name-default t c =
    made_one c.args.text.now c.args.depth _ (name (name_of c.in_ok-name-in-Some-Name-default.name)) c.args.input.now c.in_ok-name-in-Some-Name-default.rest.now c.made-in-Some-Name-default.result (λ x. x.0.value) (λ x. x.1.now) c.made-in-Some-Name-default.ensures c.requires.1.1.0
    c.in_ok-name-in-Some-Name-default.ensures.spans (omega arith, tt) refl c.in_ok-name-in-Some-Name-default.ensures.shorter c.in_ok-name-in-Some-Name-default.ensures.proper (λ s. refl) c.in_ok-name-in-Some-Name-default.ensures.words

pub read_level-returns-in_err-push : goal.read_level-returns-in_err-push
read_level-returns-in_err-push t c = stopped _ _ c.from_residual-in_err-push.result c.from_residual-in_err-push.ensures.1 (λ s l. tt)

pub read_level-operands-smaller : goal.read_level-operands-smaller
read_level-operands-smaller t c = omega (arith, c.in-Some.ensures.shorter, c.in_ok-expression.ensures.shorter)

pub read_factor-returns-in_err-rest-in-Some-Word-Wait-default : goal.read_factor-returns-in_err-rest-in-Some-Word-Wait-default
read_factor-returns-in_err-rest-in-Some-Word-Wait-default t c = stopped _ _ c.from_residual.result c.from_residual.ensures.1 (then_stops _ (one c.args.text.now c.args.depth (ExpressionPart factors) ([]) (TokenPart (a_sign Open) ∷ TokenPart a_name ∷ TokenPart (a_sign Close) ∷ []) (word Wait) c.args.input.now c.in-Some-Word-Wait-default.rest.now (λ s l. omega (arith, l, c.requires.1.1.0)) (λ s. refl) ((first_of _ (Word Wait) c.args.input.now c.in-Some-Word-Wait-default.rest.now (c.in-Some-Word-Wait-default.field-0-0-is ∙ ap Word c.in-Some-Word-Wait-default.field-0-0-0-is) c.in-Some-Word-Wait-default.ensures.first.0).1 c.args.text.now)) (unexpected c.args.text.now c.args.depth (a_sign Open) (TokenPart a_name ∷ TokenPart (a_sign Close) ∷ []) (SignClass Open) c.in-Some-Word-Wait-default.rest.now _ refl c.in_err-rest-in-Some-Word-Wait-default.ensures.stop))

pub read_factor-read_name-requires : goal.read_factor-read_name-requires
read_factor-read_name-requires t c = record { proper = c.in_ok-rest-in-Some-Word-Wait-default.ensures.proper c.args.text.now (c.in-Some-Word-Wait-default.ensures.proper c.args.text.now c.requires.1.1.1) }

pub read_factor-returns-in_err-name-in-Some-Word-Wait-default : goal.read_factor-returns-in_err-name-in-Some-Word-Wait-default
read_factor-returns-in_err-name-in-Some-Word-Wait-default t c = stopped _ _ c.from_residual-in_err-name-in-Some-Word-Wait-default.result c.from_residual-in_err-name-in-Some-Word-Wait-default.ensures.1 (then_stops _ (then (one c.args.text.now c.args.depth (ExpressionPart factors) ([]) (TokenPart (a_sign Open) ∷ TokenPart a_name ∷ TokenPart (a_sign Close) ∷ []) (word Wait) c.args.input.now c.in-Some-Word-Wait-default.rest.now (λ s l. omega (arith, l, c.requires.1.1.0)) (λ s. refl) ((first_of _ (Word Wait) c.args.input.now c.in-Some-Word-Wait-default.rest.now (c.in-Some-Word-Wait-default.field-0-0-is ∙ ap Word c.in-Some-Word-Wait-default.field-0-0-0-is) c.in-Some-Word-Wait-default.ensures.first.0).1 c.args.text.now)) (expected c.args.text.now c.args.depth (a_sign Open) (TokenPart a_name ∷ TokenPart (a_sign Close) ∷ []) (SignClass Open) c.in-Some-Word-Wait-default.rest.now c.in_ok-rest-in-Some-Word-Wait-default.rest.now (λ s l. omega (arith, l, c.requires.1.1.0)) refl c.in_ok-rest-in-Some-Word-Wait-default.ensures.first)) (no_name c.args.text.now c.args.depth (TokenPart (a_sign Close) ∷ []) c.in_ok-rest-in-Some-Word-Wait-default.rest.now _ c.in_err-name-in-Some-Word-Wait-default.ensures.stop))

pub read_factor-returns-in_err-rest-in-Some-Word-Wait-default-2 : goal.read_factor-returns-in_err-rest-in-Some-Word-Wait-default-2
read_factor-returns-in_err-rest-in-Some-Word-Wait-default-2 t c = stopped _ _ c.from_residual-in_err-rest-in-Some-Word-Wait-default-2.result c.from_residual-in_err-rest-in-Some-Word-Wait-default-2.ensures.1 (then_stops _ (then (then (one c.args.text.now c.args.depth (ExpressionPart factors) ([]) (TokenPart (a_sign Open) ∷ TokenPart a_name ∷ TokenPart (a_sign Close) ∷ []) (word Wait) c.args.input.now c.in-Some-Word-Wait-default.rest.now (λ s l. omega (arith, l, c.requires.1.1.0)) (λ s. refl) ((first_of _ (Word Wait) c.args.input.now c.in-Some-Word-Wait-default.rest.now (c.in-Some-Word-Wait-default.field-0-0-is ∙ ap Word c.in-Some-Word-Wait-default.field-0-0-0-is) c.in-Some-Word-Wait-default.ensures.first.0).1 c.args.text.now)) (expected c.args.text.now c.args.depth (a_sign Open) (TokenPart a_name ∷ TokenPart (a_sign Close) ∷ []) (SignClass Open) c.in-Some-Word-Wait-default.rest.now c.in_ok-rest-in-Some-Word-Wait-default.rest.now (λ s l. omega (arith, l, c.requires.1.1.0)) refl c.in_ok-rest-in-Some-Word-Wait-default.ensures.first)) (token c.args.text.now c.args.depth a_name (TokenPart (a_sign Close) ∷ []) (name (name_of c.in_ok-name-in-Some-Word-Wait-default.name)) c.in_ok-rest-in-Some-Word-Wait-default.rest.now c.in_ok-name-in-Some-Word-Wait-default.rest.now (λ s l. omega (arith, l, c.requires.1.1.0)) refl c.in_ok-name-in-Some-Word-Wait-default.ensures.words)) (unexpected c.args.text.now c.args.depth (a_sign Close) ([]) (SignClass Close) c.in_ok-name-in-Some-Word-Wait-default.rest.now _ refl c.in_err-rest-in-Some-Word-Wait-default-2.ensures.stop))

pub read_factor-returns-in_ok-rest-in-Some-Word-Wait-default-2 : goal.read_factor-returns-in_ok-rest-in-Some-Word-Wait-default-2
read_factor-returns-in_ok-rest-in-Some-Word-Wait-default-2 t c =
    let i = c.args.input.now in
    made c.args.text.now c.args.depth factors _ i c.in_ok-rest-in-Some-Word-Wait-default-2.rest.now (λ at h. record {
      spans = let T = c.args.text.now in (h, (_, _, _, one_lexeme T (word Wait) c.args.input.now c.in-Some-Word-Wait-default.rest.now c.in-Some-Word-Wait-default.ensures.passed ((first_of _ (Word Wait) c.args.input.now c.in-Some-Word-Wait-default.rest.now (c.in-Some-Word-Wait-default.field-0-0-is ∙ ap Word c.in-Some-Word-Wait-default.field-0-0-0-is) c.in-Some-Word-Wait-default.ensures.first.0).1 T), one_lexeme T (sign Open) c.in-Some-Word-Wait-default.rest.now c.in_ok-rest-in-Some-Word-Wait-default.rest.now c.in_ok-rest-in-Some-Word-Wait-default.ensures.passed (c.in_ok-rest-in-Some-Word-Wait-default.ensures.first.1 T), c.in_ok-name-in-Some-Word-Wait-default.ensures.spans, one_lexeme T (sign Close) c.in_ok-name-in-Some-Word-Wait-default.rest.now c.in_ok-rest-in-Some-Word-Wait-default-2.rest.now c.in_ok-rest-in-Some-Word-Wait-default-2.ensures.passed (c.in_ok-rest-in-Some-Word-Wait-default-2.ensures.first.1 T)));
      formed = (omega arith, tt);
      nesting = omega (arith, c.requires.1.1.0);
      shorter = omega (arith, c.in-Some-Word-Wait-default.ensures.first.1, c.in_ok-rest-in-Some-Word-Wait-default.ensures.shorter, c.in_ok-name-in-Some-Word-Wait-default.ensures.shorter, c.in_ok-rest-in-Some-Word-Wait-default-2.ensures.shorter);
      proper = c.in_ok-rest-in-Some-Word-Wait-default-2.ensures.proper c.args.text.now c.in_ok-name-in-Some-Word-Wait-default.ensures.proper;
      reads = let T = c.args.text.now in let i = c.args.input.now in
          let p = ExpressionPart factors ∷ [] in
          let after_wait = TokenPart (a_sign Open) ∷ TokenPart a_name ∷ TokenPart (a_sign Close) ∷ [] in
          let after_open = TokenPart a_name ∷ TokenPart (a_sign Close) ∷ [] in
          let after_name = TokenPart (a_sign Close) ∷ [] in
          let m = one T c.args.depth (ExpressionPart factors) [] after_wait (word Wait) i c.in-Some-Word-Wait-default.rest.now (λ s l. omega (arith, l, c.requires.1.1.0)) (λ s. refl) ((first_of _ (Word Wait) c.args.input.now c.in-Some-Word-Wait-default.rest.now (c.in-Some-Word-Wait-default.field-0-0-is ∙ ap Word c.in-Some-Word-Wait-default.field-0-0-0-is) c.in-Some-Word-Wait-default.ensures.first.0).1 T) in
          let m2 = then m
          (expected T c.args.depth (a_sign Open) after_open (SignClass Open) c.in-Some-Word-Wait-default.rest.now c.in_ok-rest-in-Some-Word-Wait-default.rest.now (λ s l. omega (arith, l, c.requires.1.1.0)) refl c.in_ok-rest-in-Some-Word-Wait-default.ensures.first) in
          let m3 = then m2
          (token T c.args.depth a_name after_name (name (name_of c.in_ok-name-in-Some-Word-Wait-default.name)) c.in_ok-rest-in-Some-Word-Wait-default.rest.now c.in_ok-name-in-Some-Word-Wait-default.rest.now (λ s l. omega (arith, l, c.requires.1.1.0)) refl c.in_ok-name-in-Some-Word-Wait-default.ensures.words) in
          then m3
          (expected T c.args.depth (a_sign Close) [] (SignClass Close) c.in_ok-name-in-Some-Word-Wait-default.rest.now c.in_ok-rest-in-Some-Word-Wait-default-2.rest.now (λ s l. omega (arith, l, c.requires.1.1.0)) refl c.in_ok-rest-in-Some-Word-Wait-default-2.ensures.first);
    })
    c.made-in-Some-Word-Wait-default.result (λ x. x.0.value) (λ x. x.1.now) c.made-in-Some-Word-Wait-default.ensures

pub read_level-returns-then-is_alone : goal.read_level-returns-then-is_alone
read_level-returns-then-is_alone t c =
    let w = subst (λ e. ExpressionRead c.args.text.now c.args.depth (tighter (rung_of c.args.level)) e c.in-Some.after.now c.in_ok-expression.left.now) (sym c.into_inner.ensures) c.in_ok-expression.ensures in
    let T = c.args.text.now in let v = c.args.level in let i = c.operands.invariant in
    let one : is_alone v ≡ true = sym c.is_alone.ensures ∙ c.if-is_alone.true in
    let first = c.in_ok-first.first.value in
    let further = c.push.new.self in
    let items = c.in_ok-push.ensures.items ∙ ap (λ os. os ++ record { operator = c.in-Some.operator; expression = c.into_inner.result } ∷ []) (i.single one) in
    let m = joined_made (form_tree first.form) further.items (operands_row (hidden-the_row-Operand-0 further)) (operands_made further) (λ e. let bad = sym items ∙ e in absurd cc) in
    made T c.args.depth (rung_of v) _ c.args.input.now c.in_ok-expression.left.now (λ span h. record {
      spans = (h, (i.spans.0, i.spans.1, operands_row_spans T further i.spans.0 c.in_ok-expression.left.now (operands_next T _ _ _ _ c.operands.rest.now c.in-Some.after.now c.in_ok-expression.left.now c.in_ok-push.ensures.items i.spans.2 (one_lexeme T (operator_terminal c.in-Some.operator) c.operands.rest.now c.in-Some.after.now c.in-Some.ensures.passed (c.in-Some.ensures.first T)) w.spans)));
      formed = subst (FitsLevel (at (rung_of v))) (sym m) (alone_fits v _ further.items _ one items c.in-Some.ensures.ranked c.in_ok-first.ensures.formed w.formed);
      nesting = omega (arith, ap expression_nesting m, joined_nesting (expression_tree first) (operands_of further.items), operands_nesting_next _ (expression_tree first) _ _ _ c.in_ok-push.ensures.items i.nesting w.nesting);
      shorter = omega (arith, c.in-Some.ensures.shorter, w.shorter, i.shorter);
      proper = w.proper;
      reads = subst (λ ps. Moves T c.args.depth (ExpressionPart (rung_of v) ∷ []) ps c.args.input.now c.in_ok-expression.left.now) (after_alone v one) (then
          (then i.reads (operator_next T c.args.depth v c.in-Some.operator c.operands.rest.now c.in-Some.after.now c.requires.1.1.0 c.in-Some.ensures.ranked (c.in-Some.ensures.first T)))
          (call T c.args.depth c.args.depth (ExpressionPart (tighter (rung_of v)) ∷ []) (after_operator v) c.in-Some.after.now c.in_ok-expression.left.now (after_levels v c.args.depth) w.reads));
    })
    c.made.result (λ x. x.0.value) (λ x. x.1.now) c.made.ensures
