use Rattle.kahn_syntax.proofs.Parsing.{Channel, DeclarationPart, NamesTail, ProcessPart, RolePart, TokenPart, Word, a_name, a_word, arith, call, call_stops, stopped, expected, kind_moves, kind_terminal, one_lexeme, opens_process, refl, then, then_stops, unexpected, word, [], ◌∷◌}
use Rattle.kahn_syntax.proofs.parser.declaration.read_declaration.Goals as goal

pub returns-in_err-rest-in-Some : goal.returns-in_err-rest-in-Some
returns-in_err-rest-in-Some c = stopped _ _ c.from_residual.result c.from_residual.ensures.1 (then_stops _ (then (kind_moves c.args.text.now 0 DeclarationPart [] (RolePart ∷ TokenPart (a_word Channel) ∷ TokenPart a_name ∷ NamesTail ∷ []) c.in-Some.kind c.args.input.now c.in-Some.rest.now (λ s l. omega (arith, l)) (λ s. refl) (λ s. refl) (c.in-Some.ensures.first c.args.text.now)) (call c.args.text.now 0 0 (RolePart ∷ []) (TokenPart (a_word Channel) ∷ TokenPart a_name ∷ NamesTail ∷ []) c.in-Some.rest.now c.read_role-role.result.1.now (λ s l. omega (arith, l)) (c.read_role-role.ensures.reads c.args.text.now))) (unexpected c.args.text.now 0 (a_word Channel) (TokenPart a_name ∷ NamesTail ∷ []) (Word Channel) c.read_role-role.result.1.now _ refl c.in_err-rest-in-Some.ensures.stop))

pub read_names-requires : goal.read_names-requires
read_names-requires c = record { proper = c.in_ok-rest-in-Some.ensures.proper c.args.text.now (c.read_role-role.ensures.proper c.args.text.now (c.in-Some.ensures.proper c.args.text.now c.requires.proper)) }

pub returns-in_err-names-in-Some : goal.returns-in_err-names-in-Some
returns-in_err-names-in-Some c = stopped _ _ c.from_residual-in_err-names-in-Some.result c.from_residual-in_err-names-in-Some.ensures.1 (then_stops _ (then (then (kind_moves c.args.text.now 0 DeclarationPart [] (RolePart ∷ TokenPart (a_word Channel) ∷ TokenPart a_name ∷ NamesTail ∷ []) c.in-Some.kind c.args.input.now c.in-Some.rest.now (λ s l. omega (arith, l)) (λ s. refl) (λ s. refl) (c.in-Some.ensures.first c.args.text.now)) (call c.args.text.now 0 0 (RolePart ∷ []) (TokenPart (a_word Channel) ∷ TokenPart a_name ∷ NamesTail ∷ []) c.in-Some.rest.now c.read_role-role.result.1.now (λ s l. omega (arith, l)) (c.read_role-role.ensures.reads c.args.text.now))) (expected c.args.text.now 0 (a_word Channel) (TokenPart a_name ∷ NamesTail ∷ []) (Word Channel) c.read_role-role.result.1.now c.in_ok-rest-in-Some.rest.now (λ s l. omega (arith, l)) refl c.in_ok-rest-in-Some.ensures.first)) (call_stops c.args.text.now 0 0 (TokenPart a_name ∷ NamesTail ∷ []) ([]) c.in_ok-rest-in-Some.rest.now _ (λ s l. omega (arith, l)) c.in_err-names-in-Some.ensures))

pub returns-in_err-process-in-None : goal.returns-in_err-process-in-None
returns-in_err-process-in-None c = stopped _ _ c.from_residual-in_err-process-in-None.result c.from_residual-in_err-process-in-None.ensures.1 (then_stops _ (opens_process c.args.text.now [] c.args.input.now (c.in-None.ensures.leads c.args.text.now)) (call_stops c.args.text.now 0 0 (ProcessPart ∷ []) ([]) c.args.input.now _ (λ s l. omega (arith, l)) c.in_err-process-in-None.ensures))

pub returns-in_ok-names-in-Some : goal.returns-in_ok-names-in-Some
returns-in_ok-names-in-Some c =
    record {
      spans = let T = c.args.text.now in (omega arith, (_, _, _, (one_lexeme T (kind_terminal c.in-Some.kind) c.args.input.now c.in-Some.rest.now c.in-Some.ensures.passed (c.in-Some.ensures.first T)), c.read_role-role.ensures.spans T, (one_lexeme T (word Channel) c.read_role-role.result.1.now c.in_ok-rest-in-Some.rest.now c.in_ok-rest-in-Some.ensures.passed (c.in_ok-rest-in-Some.ensures.first.1 T)), c.in_ok-names-in-Some.ensures.spans));
      shorter = omega (arith, c.in-Some.ensures.shorter, c.read_role-role.ensures.shorter, c.in_ok-rest-in-Some.ensures.shorter, c.in_ok-names-in-Some.ensures.shorter);
      proper = c.in_ok-names-in-Some.ensures.proper;
      reads = (then (then (then (kind_moves c.args.text.now 0 DeclarationPart [] (RolePart ∷ TokenPart (a_word Channel) ∷ TokenPart a_name ∷ NamesTail ∷ []) c.in-Some.kind c.args.input.now c.in-Some.rest.now (λ s l. omega (arith, l)) (λ s. refl) (λ s. refl) (c.in-Some.ensures.first c.args.text.now)) (call c.args.text.now 0 0 (RolePart ∷ []) (TokenPart (a_word Channel) ∷ TokenPart a_name ∷ NamesTail ∷ []) c.in-Some.rest.now c.read_role-role.result.1.now (λ s l. omega (arith, l)) (c.read_role-role.ensures.reads c.args.text.now))) (expected c.args.text.now 0 (a_word Channel) (TokenPart a_name ∷ NamesTail ∷ []) (Word Channel) c.read_role-role.result.1.now c.in_ok-rest-in-Some.rest.now (λ s l. omega (arith, l)) refl c.in_ok-rest-in-Some.ensures.first)) (call c.args.text.now 0 0 (TokenPart a_name ∷ NamesTail ∷ []) ([]) c.in_ok-rest-in-Some.rest.now c.in_ok-names-in-Some.rest.now (λ s l. omega (arith, l)) c.in_ok-names-in-Some.ensures.reads));
    }

pub returns-in_ok-process-in-None : goal.returns-in_ok-process-in-None
returns-in_ok-process-in-None c =
    record {
      spans = c.in_ok-process-in-None.ensures.spans;
      shorter = c.in_ok-process-in-None.ensures.shorter;
      proper = c.in_ok-process-in-None.ensures.proper;
      reads = (then (opens_process c.args.text.now [] c.args.input.now (c.in-None.ensures.leads c.args.text.now)) (call c.args.text.now 0 0 (ProcessPart ∷ []) ([]) c.args.input.now c.in_ok-process-in-None.rest.now (λ s l. omega (arith, l)) c.in_ok-process-in-None.ensures.reads));
    }
