use Rattle.kahn_syntax.proofs.Parsing.{◌∷◌, End, Process, ProcessPart, StatementPart, StatementsTail, VariablesPart, Word, a_name, a_word, arith, call, call_stops, drop, stopped, expected, head_parts, name, no_name, one, one_lexeme, process_parts, refl, then, then_stops, token, unexpected, word, [], no_part}
use Rattle.kahn_syntax.proofs.parser.declaration.read_process.Goals as goal

pub returns-in_err-rest : goal.returns-in_err-rest
returns-in_err-rest c = stopped _ _ c.from_residual.result c.from_residual.ensures.1 (no_part c.args.text.now ProcessPart (a_word Process) _ [] c.args.input.now _ refl (c.in_err-rest.ensures.stop.0 (a_word Process) refl c.args.text.now, c.in_err-rest.ensures.stop.1))

pub read_name-requires : goal.read_name-requires
read_name-requires c = record { proper = c.in_ok-rest.ensures.proper c.args.text.now c.requires.proper }

pub returns-in_err-name : goal.returns-in_err-name
returns-in_err-name c =
    let T = c.args.text.now in let i = c.args.input.now in
    stopped _ _ c.from_residual-in_err-name.result c.from_residual-in_err-name.ensures.1 (then_stops _ ((one T 0 ProcessPart [] process_parts (word Process) i c.in_ok-rest.rest.now (λ s l. omega (arith, l)) (λ s. refl) (c.in_ok-rest.ensures.first.1 T))) (no_name T 0 (drop 1 process_parts) c.in_ok-rest.rest.now _ c.in_err-name.ensures.stop))

pub returns-in_err-parameters : goal.returns-in_err-parameters
returns-in_err-parameters c =
    let T = c.args.text.now in let i = c.args.input.now in
    let m = then ((one T 0 ProcessPart [] process_parts (word Process) i c.in_ok-rest.rest.now (λ s l. omega (arith, l)) (λ s. refl) (c.in_ok-rest.ensures.first.1 T))) (token T 0 a_name (drop 1 process_parts) (name _) c.in_ok-rest.rest.now c.in_ok-name.rest.now (λ s l. omega (arith, l)) refl c.in_ok-name.ensures.words) in
    stopped _ _ c.from_residual-in_err-parameters.result c.from_residual-in_err-parameters.ensures.1 (then_stops _ m ((call_stops T 0 0 head_parts (drop 6 process_parts) c.in_ok-name.rest.now _ (λ s l. l) c.in_err-parameters.ensures)))

pub returns-in_err-variables : goal.returns-in_err-variables
returns-in_err-variables c =
    let T = c.args.text.now in let i = c.args.input.now in
    let m = then ((one T 0 ProcessPart [] process_parts (word Process) i c.in_ok-rest.rest.now (λ s l. omega (arith, l)) (λ s. refl) (c.in_ok-rest.ensures.first.1 T))) (token T 0 a_name (drop 1 process_parts) (name _) c.in_ok-rest.rest.now c.in_ok-name.rest.now (λ s l. omega (arith, l)) refl c.in_ok-name.ensures.words) in
    let m2 = then m (call T 0 0 head_parts (drop 6 process_parts) c.in_ok-name.rest.now c.in_ok-parameters.rest.now (λ s l. l) c.in_ok-parameters.ensures.reads) in
    stopped _ _ c.from_residual-in_err-variables.result c.from_residual-in_err-variables.ensures.1 (then_stops _ m2 (call_stops T 0 0 (VariablesPart ∷ []) (drop 7 process_parts) c.in_ok-parameters.rest.now _ (λ s l. l) c.in_err-variables.ensures))

pub returns-in_err-statements : goal.returns-in_err-statements
returns-in_err-statements c =
    let T = c.args.text.now in let i = c.args.input.now in
    let m = then ((one T 0 ProcessPart [] process_parts (word Process) i c.in_ok-rest.rest.now (λ s l. omega (arith, l)) (λ s. refl) (c.in_ok-rest.ensures.first.1 T))) (token T 0 a_name (drop 1 process_parts) (name _) c.in_ok-rest.rest.now c.in_ok-name.rest.now (λ s l. omega (arith, l)) refl c.in_ok-name.ensures.words) in
    let m2 = then m (call T 0 0 head_parts (drop 6 process_parts) c.in_ok-name.rest.now c.in_ok-parameters.rest.now (λ s l. l) c.in_ok-parameters.ensures.reads) in
    let m3 = then m2 (call T 0 0 (VariablesPart ∷ []) (drop 7 process_parts) c.in_ok-parameters.rest.now c.in_ok-variables.rest.now (λ s l. l) c.in_ok-variables.ensures.reads) in
    stopped _ _ c.from_residual-in_err-statements.result c.from_residual-in_err-statements.ensures.1 (then_stops _ m3 (call_stops T 0 0 (StatementPart ∷ StatementsTail ∷ []) (drop 9 process_parts) c.in_ok-variables.rest.now _ (λ s l. l) c.in_err-statements.ensures))

pub returns-in_err-rest-2 : goal.returns-in_err-rest-2
returns-in_err-rest-2 c =
    let T = c.args.text.now in let i = c.args.input.now in
    let m = then ((one T 0 ProcessPart [] process_parts (word Process) i c.in_ok-rest.rest.now (λ s l. omega (arith, l)) (λ s. refl) (c.in_ok-rest.ensures.first.1 T))) (token T 0 a_name (drop 1 process_parts) (name _) c.in_ok-rest.rest.now c.in_ok-name.rest.now (λ s l. omega (arith, l)) refl c.in_ok-name.ensures.words) in
    let m2 = then m (call T 0 0 head_parts (drop 6 process_parts) c.in_ok-name.rest.now c.in_ok-parameters.rest.now (λ s l. l) c.in_ok-parameters.ensures.reads) in
    let m3 = then m2 (call T 0 0 (VariablesPart ∷ []) (drop 7 process_parts) c.in_ok-parameters.rest.now c.in_ok-variables.rest.now (λ s l. l) c.in_ok-variables.ensures.reads) in
    let m4 = then m3 (call T 0 0 (StatementPart ∷ StatementsTail ∷ []) (drop 9 process_parts) c.in_ok-variables.rest.now c.in_ok-statements.rest.now (λ s l. l) c.in_ok-statements.ensures.reads) in
    stopped _ _ c.from_residual-in_err-rest-2.result c.from_residual-in_err-rest-2.ensures.1 (then_stops _ m4 (unexpected T 0 (a_word End) [] (Word End) c.in_ok-statements.rest.now _ refl c.in_err-rest-2.ensures.stop))

pub returns : goal.returns
returns c =
    let T = c.args.text.now in let i = c.args.input.now in
    let m = then ((one T 0 ProcessPart [] process_parts (word Process) i c.in_ok-rest.rest.now (λ s l. omega (arith, l)) (λ s. refl) (c.in_ok-rest.ensures.first.1 T))) (token T 0 a_name (drop 1 process_parts) (name _) c.in_ok-rest.rest.now c.in_ok-name.rest.now (λ s l. omega (arith, l)) refl c.in_ok-name.ensures.words) in
    let m2 = then m (call T 0 0 head_parts (drop 6 process_parts) c.in_ok-name.rest.now c.in_ok-parameters.rest.now (λ s l. l) c.in_ok-parameters.ensures.reads) in
    let m3 = then m2 (call T 0 0 (VariablesPart ∷ []) (drop 7 process_parts) c.in_ok-parameters.rest.now c.in_ok-variables.rest.now (λ s l. l) c.in_ok-variables.ensures.reads) in
    let m4 = then m3 (call T 0 0 (StatementPart ∷ StatementsTail ∷ []) (drop 9 process_parts) c.in_ok-variables.rest.now c.in_ok-statements.rest.now (λ s l. l) c.in_ok-statements.ensures.reads) in
    record {
      spans = (omega (arith, c.in_ok-statements.ensures.nesting), (_, _, _, _, _, one_lexeme T (word Process) i c.in_ok-rest.rest.now c.in_ok-rest.ensures.passed (c.in_ok-rest.ensures.first.1 T), c.in_ok-name.ensures.spans, c.in_ok-parameters.ensures.spans, c.in_ok-variables.ensures.spans, (c.in_ok-statements.ensures.spans, c.in_ok-statements.ensures.formed.0, c.in_ok-statements.ensures.formed.1), one_lexeme T (word End) c.in_ok-statements.rest.now c.in_ok-rest-2.rest.now c.in_ok-rest-2.ensures.passed (c.in_ok-rest-2.ensures.first.1 T)));
      shorter = omega (arith, c.in_ok-rest.ensures.shorter, c.in_ok-name.ensures.shorter, c.in_ok-parameters.ensures.shorter, c.in_ok-variables.ensures.shorter, c.in_ok-statements.ensures.shorter, c.in_ok-rest-2.ensures.shorter);
      proper = c.in_ok-rest-2.ensures.proper T c.in_ok-statements.ensures.proper;
      reads = then m4 (expected T 0 (a_word End) [] (Word End) c.in_ok-statements.rest.now c.in_ok-rest-2.rest.now (λ s l. omega (arith, l)) refl c.in_ok-rest-2.ensures.first);
    }
