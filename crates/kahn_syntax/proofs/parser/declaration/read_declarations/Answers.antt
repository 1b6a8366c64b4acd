use Rattle.kahn_syntax.proofs.Parsing.{◌≤◌, Ended, Takes, DeclarationSpans, declarations_nesting, DeclarationPart, DeclarationsPart, Semicolon, SignClass, TokenPart, a_sign, arith, call, call_stops, declaration_tree, declaration_rules, declarations_next, stopped, expected, false, map, one_lexeme, opens_declarations, refl, rules, sign, nesting_more, starts, subst, sym, terminals, then, then_stops, true, unexpected, [], ◌∷◌, ◌≡◌, nothing, starts_followed, ◌∙◌}
use Rattle.kahn_syntax.proofs.parser.declaration.read_declarations.Goals as goal

pub returns-in_err-declaration : goal.returns-in_err-declaration
returns-in_err-declaration c =
    let a : starts declaration_rules (terminals c.args.text.now c.declarations.rest.now) ≡ true = search rules in stopped _ _ c.from_residual.result c.from_residual.ensures.1 (then_stops _ (then (c.declarations.invariant.reads) (opens_declarations c.args.text.now [] c.declarations.rest.now a)) (call_stops c.args.text.now 0 0 (DeclarationPart ∷ []) (TokenPart (a_sign Semicolon) ∷ DeclarationsPart ∷ []) c.declarations.rest.now _ (λ s l. omega (arith, l)) c.in_err-declaration.ensures))

pub returns-in_err-left : goal.returns-in_err-left
returns-in_err-left c =
    let a : starts declaration_rules (terminals c.args.text.now c.declarations.rest.now) ≡ true = search rules in stopped _ _ c.from_residual-in_err-left.result c.from_residual-in_err-left.ensures.1 (then_stops _ (then (then (c.declarations.invariant.reads) (opens_declarations c.args.text.now [] c.declarations.rest.now a)) (call c.args.text.now 0 0 (DeclarationPart ∷ []) (TokenPart (a_sign Semicolon) ∷ DeclarationsPart ∷ []) c.declarations.rest.now c.in_ok-declaration.after.now (λ s l. omega (arith, l)) c.in_ok-declaration.ensures.reads)) (unexpected c.args.text.now 0 (a_sign Semicolon) (DeclarationsPart ∷ []) (SignClass Semicolon) c.in_ok-declaration.after.now _ refl c.in_err-left.ensures.stop))

pub declarations-preserved : goal.declarations-preserved
declarations-preserved c =
    let a : starts declaration_rules (terminals c.args.text.now c.declarations.rest.now) ≡ true = search rules in
    record {
      spans = (let T = c.args.text.now in declarations_next T _ _ _ c.args.input.now c.declarations.rest.now c.in_ok-declaration.after.now c.in_ok-left.left.now c.in_ok-push.ensures.items c.declarations.invariant.spans c.in_ok-declaration.ensures.spans.1
          (one_lexeme T (sign Semicolon) c.in_ok-declaration.after.now c.in_ok-left.left.now c.in_ok-left.ensures.passed (c.in_ok-left.ensures.first.1 T)));
      nesting = subst (λ ds. declarations_nesting (map declaration_tree ds) ≤ 64) (sym c.in_ok-push.ensures.items) (nesting_more _ c.in_ok-declaration.declaration c.declarations.invariant.nesting c.in_ok-declaration.ensures.spans.0);
      shorter = omega (arith, c.in_ok-left.ensures.shorter, c.in_ok-declaration.ensures.shorter, c.declarations.invariant.shorter);
      proper = c.in_ok-left.ensures.proper c.args.text.now c.in_ok-declaration.ensures.proper;
      reads = (then (then (then (c.declarations.invariant.reads) (opens_declarations c.args.text.now [] c.declarations.rest.now a)) (call c.args.text.now 0 0 (DeclarationPart ∷ []) (TokenPart (a_sign Semicolon) ∷ DeclarationsPart ∷ []) c.declarations.rest.now c.in_ok-declaration.after.now (λ s l. omega (arith, l)) c.in_ok-declaration.ensures.reads)) (expected c.args.text.now 0 (a_sign Semicolon) (DeclarationsPart ∷ []) (SignClass Semicolon) c.in_ok-declaration.after.now c.in_ok-left.left.now (λ s l. omega (arith, l)) refl c.in_ok-left.ensures.first));
    }

pub returns : goal.returns
returns c =
    record {
      spans = (c.declarations.invariant.nesting, c.declarations.invariant.spans);
      shorter = c.declarations.invariant.shorter;
      proper = c.declarations.invariant.proper;
      reads = let a : starts declaration_rules (terminals c.args.text.now c.declarations.rest.now) ≡ false = search rules in (then (c.declarations.invariant.reads) (nothing c.args.text.now 0 DeclarationsPart [] c.declarations.rest.now refl (starts_followed declaration_rules (TokenPart (a_sign Semicolon) ∷ DeclarationsPart ∷ []) (terminals c.args.text.now c.declarations.rest.now) ∙ a)));
    }

pub declarations-init : goal.declarations-init
declarations-init c =
    record {
      nesting = subst (λ ds. declarations_nesting (map declaration_tree ds) ≤ 64) (sym c.new-declarations.ensures.items) (omega arith);
      spans = subst (λ ds. Ended (Takes c.args.text.now (sign Semicolon)) (DeclarationSpans c.args.text.now) ds c.args.input.now c.args.input.now) (sym c.new-declarations.ensures.items) refl;
      shorter = omega arith;
      proper = c.requires.proper;
      reads = record { fates = λ s l. refl };
    }
