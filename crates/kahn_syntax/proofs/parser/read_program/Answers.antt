use Rattle.kahn_syntax.proofs.Parsing.{Begin, DeclarationsPart, End, InstancePart, InstancesTail, LastTail, May, ProgramPart, Semicolon, Takes, TokenPart, Word, a_word, arith, call, call_stops, err_from_is_err_and, expected, halts, length, none_left, one, one_lexeme, refl, rules, sign, subst, then, then_stops, unexpected, whole_end, word, [], ◌∙◌, ◌∷◌, ◌≡◌, ◌≢◌, no_part}
use Rattle.kahn_syntax.proofs.parser.read_program.Goals as goal

pub returns-in_err-rest-clause-halts : goal.returns-in_err-rest-clause-halts
returns-in_err-rest-clause-halts c =
    let p = err_from_is_err_and c.from_residual.result c.from_residual.ensures.1 in rw (p.1, p.2) (halts c.args.text.now c.args.lexemes.now _ (no_part c.args.text.now ProgramPart (a_word Begin) _ [] c.args.lexemes.now _ refl (c.in_err-rest.ensures.stop.0 (a_word Begin) refl c.args.text.now, c.in_err-rest.ensures.stop.1)))

pub read_declarations-requires : goal.read_declarations-requires
read_declarations-requires c = record { proper = c.in_ok-rest.ensures.proper c.args.text.now c.requires.proper }

pub returns-in_err-declarations-clause-halts : goal.returns-in_err-declarations-clause-halts
returns-in_err-declarations-clause-halts c =
    let p = err_from_is_err_and c.from_residual-in_err-declarations.result c.from_residual-in_err-declarations.ensures.1 in rw (p.1, p.2) (halts c.args.text.now c.args.lexemes.now _ (then_stops _ (one c.args.text.now 0 (ProgramPart) ([]) (DeclarationsPart ∷ InstancePart ∷ InstancesTail ∷ LastTail ∷ TokenPart (a_word End) ∷ LastTail ∷ []) (word Begin) c.args.lexemes.now c.in_ok-rest.rest.now (λ s l. omega (arith, l)) (λ s. refl) (c.in_ok-rest.ensures.first.1 c.args.text.now)) (call_stops c.args.text.now 0 0 (DeclarationsPart ∷ []) (InstancePart ∷ InstancesTail ∷ LastTail ∷ TokenPart (a_word End) ∷ LastTail ∷ []) c.in_ok-rest.rest.now _ (λ s l. omega (arith, l)) c.in_err-declarations.ensures)))

pub returns-in_err-instances-clause-halts : goal.returns-in_err-instances-clause-halts
returns-in_err-instances-clause-halts c =
    let p = err_from_is_err_and c.from_residual-in_err-instances.result c.from_residual-in_err-instances.ensures.1 in rw (p.1, p.2) (halts c.args.text.now c.args.lexemes.now _ (then_stops _ (then (one c.args.text.now 0 (ProgramPart) ([]) (DeclarationsPart ∷ InstancePart ∷ InstancesTail ∷ LastTail ∷ TokenPart (a_word End) ∷ LastTail ∷ []) (word Begin) c.args.lexemes.now c.in_ok-rest.rest.now (λ s l. omega (arith, l)) (λ s. refl) (c.in_ok-rest.ensures.first.1 c.args.text.now)) (call c.args.text.now 0 0 (DeclarationsPart ∷ []) (InstancePart ∷ InstancesTail ∷ LastTail ∷ TokenPart (a_word End) ∷ LastTail ∷ []) c.in_ok-rest.rest.now c.in_ok-declarations.rest.now (λ s l. omega (arith, l)) c.in_ok-declarations.ensures.reads)) (call_stops c.args.text.now 0 0 (InstancePart ∷ InstancesTail ∷ []) (LastTail ∷ TokenPart (a_word End) ∷ LastTail ∷ []) c.in_ok-declarations.rest.now _ (λ s l. omega (arith, l)) c.in_err-instances.ensures)))

pub returns-in_err-rest-2-clause-halts : goal.returns-in_err-rest-2-clause-halts
returns-in_err-rest-2-clause-halts c =
    let p = err_from_is_err_and c.from_residual-in_err-rest-2.result c.from_residual-in_err-rest-2.ensures.1 in rw (p.1, p.2) (halts c.args.text.now c.args.lexemes.now _ (then_stops _ (then (then (then (one c.args.text.now 0 (ProgramPart) ([]) (DeclarationsPart ∷ InstancePart ∷ InstancesTail ∷ LastTail ∷ TokenPart (a_word End) ∷ LastTail ∷ []) (word Begin) c.args.lexemes.now c.in_ok-rest.rest.now (λ s l. omega (arith, l)) (λ s. refl) (c.in_ok-rest.ensures.first.1 c.args.text.now)) (call c.args.text.now 0 0 (DeclarationsPart ∷ []) (InstancePart ∷ InstancesTail ∷ LastTail ∷ TokenPart (a_word End) ∷ LastTail ∷ []) c.in_ok-rest.rest.now c.in_ok-declarations.rest.now (λ s l. omega (arith, l)) c.in_ok-declarations.ensures.reads)) (call c.args.text.now 0 0 (InstancePart ∷ InstancesTail ∷ []) (LastTail ∷ TokenPart (a_word End) ∷ LastTail ∷ []) c.in_ok-declarations.rest.now c.in_ok-instances.rest.now (λ s l. omega (arith, l)) c.in_ok-instances.ensures.reads)) (call c.args.text.now 0 0 (LastTail ∷ []) (TokenPart (a_word End) ∷ LastTail ∷ []) c.in_ok-instances.rest.now c.past_semicolon.result.now (λ s l. omega (arith, l)) (c.past_semicolon.ensures.reads c.args.text.now))) (unexpected c.args.text.now 0 (a_word End) (LastTail ∷ []) (Word End) c.past_semicolon.result.now _ refl c.in_err-rest-2.ensures.stop)))

pub returns-else-is_empty-clause-halts : goal.returns-else-is_empty-clause-halts
returns-else-is_empty-clause-halts c = let a : c.past_semicolon-rest.result.now ≢ [] = search rules in (then (then (then (then (then (one c.args.text.now 0 (ProgramPart) ([]) (DeclarationsPart ∷ InstancePart ∷ InstancesTail ∷ LastTail ∷ TokenPart (a_word End) ∷ LastTail ∷ []) (word Begin) c.args.lexemes.now c.in_ok-rest.rest.now (λ s l. omega (arith, l)) (λ s. refl) (c.in_ok-rest.ensures.first.1 c.args.text.now)) (call c.args.text.now 0 0 (DeclarationsPart ∷ []) (InstancePart ∷ InstancesTail ∷ LastTail ∷ TokenPart (a_word End) ∷ LastTail ∷ []) c.in_ok-rest.rest.now c.in_ok-declarations.rest.now (λ s l. omega (arith, l)) c.in_ok-declarations.ensures.reads)) (call c.args.text.now 0 0 (InstancePart ∷ InstancesTail ∷ []) (LastTail ∷ TokenPart (a_word End) ∷ LastTail ∷ []) c.in_ok-declarations.rest.now c.in_ok-instances.rest.now (λ s l. omega (arith, l)) c.in_ok-instances.ensures.reads)) (call c.args.text.now 0 0 (LastTail ∷ []) (TokenPart (a_word End) ∷ LastTail ∷ []) c.in_ok-instances.rest.now c.past_semicolon.result.now (λ s l. omega (arith, l)) (c.past_semicolon.ensures.reads c.args.text.now))) (expected c.args.text.now 0 (a_word End) (LastTail ∷ []) (Word End) c.past_semicolon.result.now c.in_ok-rest-2.rest.now (λ s l. omega (arith, l)) refl c.in_ok-rest-2.ensures.first)) (call c.args.text.now 0 0 (LastTail ∷ []) ([]) c.in_ok-rest-2.rest.now c.past_semicolon-rest.result.now (λ s l. omega (arith, l)) (c.past_semicolon-rest.ensures.reads c.args.text.now))).fates [] refl ∙ whole_end c.args.text.now c.past_semicolon-rest.result.now a

pub returns-then-is_empty-clause-read : goal.returns-then-is_empty-clause-read
returns-then-is_empty-clause-read c = (c.in_ok-declarations.ensures.spans.0, (let T = c.args.text.now in let a : length c.past_semicolon-rest.result.now ≡ 0 = search rules in (_, _, _, _, _, (one_lexeme T (word Begin) c.args.lexemes.now c.in_ok-rest.rest.now c.in_ok-rest.ensures.passed (c.in_ok-rest.ensures.first.1 T)), c.in_ok-declarations.ensures.spans.1, c.in_ok-instances.ensures.spans, c.past_semicolon.ensures.spans T, (one_lexeme T (word End) c.past_semicolon.result.now c.in_ok-rest-2.rest.now c.in_ok-rest-2.ensures.passed (c.in_ok-rest-2.ensures.first.1 T)), subst (May (Takes T (sign Semicolon)) c.in_ok-rest-2.rest.now) (none_left c.past_semicolon-rest.result.now a) (c.past_semicolon-rest.ensures.spans T))))
