use Rattle.kahn_syntax.proofs.Parsing.{NamesTail, Semicolon, SignClass, TokenPart, VariablesPart, a_name, a_sign, arith, call, call_stops, stopped, expected, kind_moves, kind_terminal, one_lexeme, refl, sign, terminals, then, then_stops, unexpected, variables_next, [], ◌∷◌, nothing, starts_one, a_kind, false}
use Rattle.kahn_syntax.proofs.parser.declaration.read_variables.Goals as goal

pub read_names-requires : goal.read_names-requires
read_names-requires c = record { proper = c.in-Some.ensures.proper c.args.text.now c.variables.invariant.proper }

pub returns-in_err-names : goal.returns-in_err-names
returns-in_err-names c = stopped _ _ c.from_residual.result c.from_residual.ensures.1 (then_stops _ (then (c.variables.invariant.reads) (kind_moves c.args.text.now 0 VariablesPart [] (TokenPart a_name ∷ NamesTail ∷ TokenPart (a_sign Semicolon) ∷ VariablesPart ∷ []) c.in-Some.kind c.variables.rest.now c.in-Some.after.now (λ s l. omega (arith, l)) (λ s. refl) (λ s. refl) (c.in-Some.ensures.first c.args.text.now))) (call_stops c.args.text.now 0 0 (TokenPart a_name ∷ NamesTail ∷ []) (TokenPart (a_sign Semicolon) ∷ VariablesPart ∷ []) c.in-Some.after.now _ (λ s l. omega (arith, l)) c.in_err-names.ensures))

pub returns-in_err-after : goal.returns-in_err-after
returns-in_err-after c = stopped _ _ c.from_residual-in_err-after.result c.from_residual-in_err-after.ensures.1 (then_stops _ (then (then (c.variables.invariant.reads) (kind_moves c.args.text.now 0 VariablesPart [] (TokenPart a_name ∷ NamesTail ∷ TokenPart (a_sign Semicolon) ∷ VariablesPart ∷ []) c.in-Some.kind c.variables.rest.now c.in-Some.after.now (λ s l. omega (arith, l)) (λ s. refl) (λ s. refl) (c.in-Some.ensures.first c.args.text.now))) (call c.args.text.now 0 0 (TokenPart a_name ∷ NamesTail ∷ []) (TokenPart (a_sign Semicolon) ∷ VariablesPart ∷ []) c.in-Some.after.now c.in_ok-names.after.now (λ s l. omega (arith, l)) c.in_ok-names.ensures.reads)) (unexpected c.args.text.now 0 (a_sign Semicolon) (VariablesPart ∷ []) (SignClass Semicolon) c.in_ok-names.after.now _ refl c.in_err-after.ensures.stop))

pub variables-preserved : goal.variables-preserved
variables-preserved c =
    record {
      spans = (let T = c.args.text.now in variables_next T _ _ c.in-Some.kind c.in_ok-names.names.items c.args.input.now c.variables.rest.now c.in-Some.after.now c.in_ok-names.after.now c.in_ok-after.after.now c.in_ok-add_variables.ensures.items c.variables.invariant.spans
          (one_lexeme T (kind_terminal c.in-Some.kind) c.variables.rest.now c.in-Some.after.now c.in-Some.ensures.passed (c.in-Some.ensures.first T)) c.in_ok-names.ensures.spans (one_lexeme T (sign Semicolon) c.in_ok-names.after.now c.in_ok-after.after.now c.in_ok-after.ensures.passed (c.in_ok-after.ensures.first.1 T)));
      shorter = omega (arith, c.in-Some.ensures.shorter, c.in_ok-names.ensures.shorter, c.in_ok-after.ensures.shorter, c.variables.invariant.shorter);
      proper = c.in_ok-after.ensures.proper c.args.text.now c.in_ok-names.ensures.proper;
      reads = (then (then (then (c.variables.invariant.reads) (kind_moves c.args.text.now 0 VariablesPart [] (TokenPart a_name ∷ NamesTail ∷ TokenPart (a_sign Semicolon) ∷ VariablesPart ∷ []) c.in-Some.kind c.variables.rest.now c.in-Some.after.now (λ s l. omega (arith, l)) (λ s. refl) (λ s. refl) (c.in-Some.ensures.first c.args.text.now))) (call c.args.text.now 0 0 (TokenPart a_name ∷ NamesTail ∷ []) (TokenPart (a_sign Semicolon) ∷ VariablesPart ∷ []) c.in-Some.after.now c.in_ok-names.after.now (λ s l. omega (arith, l)) c.in_ok-names.ensures.reads)) (expected c.args.text.now 0 (a_sign Semicolon) (VariablesPart ∷ []) (SignClass Semicolon) c.in_ok-names.after.now c.in_ok-after.after.now (λ s l. omega (arith, l)) refl c.in_ok-after.ensures.first));
    }

pub variables-init : goal.variables-init
variables-init c =
    let k = terminals c.args.text.now c.args.input.now in
    record {
      spans = ([], c.new-variables.ensures.items, refl);
      shorter = omega arith;
      proper = c.requires.proper;
      reads = record { fates = λ s l. refl };
    }

pub returns : goal.returns
returns c =
    record {
      spans = c.variables.invariant.spans;
      shorter = c.variables.invariant.shorter;
      proper = c.variables.invariant.proper;
      reads = (then (c.variables.invariant.reads) (nothing c.args.text.now 0 VariablesPart [] c.variables.rest.now refl (starts_one a_kind _ (terminals c.args.text.now c.variables.rest.now) false (c.in_default.ensures.leads c.args.text.now))));
    }
