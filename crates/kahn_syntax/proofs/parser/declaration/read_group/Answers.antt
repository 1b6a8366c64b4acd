use Rattle.kahn_syntax.proofs.Parsing.{GroupPart, NamesTail, TakingPart, TokenPart, a_name, arith, call, call_stops, stopped, kind_moves, kind_terminal, one_lexeme, refl, then, then_stops, [], ◌∷◌, no_part, a_kind}
use Rattle.kahn_syntax.proofs.parser.declaration.read_group.Goals as goal

pub returns-in_default : goal.returns-in_default
returns-in_default c =
    no_part c.args.text.now GroupPart a_kind _ [] c.args.input.now _ refl (c.in_default.ensures.leads c.args.text.now, refl)

pub read_names-requires : goal.read_names-requires
read_names-requires c = record { proper = c.read_taking-taking.ensures.proper c.args.text.now (c.in-Some.ensures.proper c.args.text.now c.requires.proper) }

pub returns-in_err-names : goal.returns-in_err-names
returns-in_err-names c = stopped _ _ c.from_residual.result c.from_residual.ensures.1 (then_stops _ (then (kind_moves c.args.text.now 0 GroupPart [] ((TakingPart ∷ TokenPart a_name ∷ NamesTail ∷ [])) c.in-Some.kind c.args.input.now c.in-Some.rest.now (λ s l. omega (arith, l)) (λ s. refl) (λ s. refl) (c.in-Some.ensures.first c.args.text.now)) (call c.args.text.now 0 0 (TakingPart ∷ []) (TokenPart a_name ∷ NamesTail ∷ []) c.in-Some.rest.now c.read_taking-taking.result.1.now (λ s l. omega (arith, l)) (c.read_taking-taking.ensures.reads c.args.text.now))) (call_stops c.args.text.now 0 0 (TokenPart a_name ∷ NamesTail ∷ []) ([]) c.read_taking-taking.result.1.now _ (λ s l. omega (arith, l)) c.in_err-names.ensures))

pub returns : goal.returns
returns c =
    record {
      spans = let T = c.args.text.now in (_, c.read_taking-taking.ensures.spans T c.args.input.now (one_lexeme T (kind_terminal c.in-Some.kind) c.args.input.now c.in-Some.rest.now c.in-Some.ensures.passed (c.in-Some.ensures.first T)), c.in_ok-names.ensures.spans);
      shorter = omega (arith, c.in-Some.ensures.shorter, c.read_taking-taking.ensures.shorter, c.in_ok-names.ensures.shorter);
      proper = c.in_ok-names.ensures.proper;
      reads = (then (then (kind_moves c.args.text.now 0 GroupPart [] ((TakingPart ∷ TokenPart a_name ∷ NamesTail ∷ [])) c.in-Some.kind c.args.input.now c.in-Some.rest.now (λ s l. omega (arith, l)) (λ s. refl) (λ s. refl) (c.in-Some.ensures.first c.args.text.now)) (call c.args.text.now 0 0 (TakingPart ∷ []) (TokenPart a_name ∷ NamesTail ∷ []) c.in-Some.rest.now c.read_taking-taking.result.1.now (λ s l. omega (arith, l)) (c.read_taking-taking.ensures.reads c.args.text.now))) (call c.args.text.now 0 0 (TokenPart a_name ∷ NamesTail ∷ []) ([]) c.read_taking-taking.result.1.now c.in_ok-names.rest.now (λ s l. omega (arith, l)) c.in_ok-names.ensures.reads));
    }
