use Rattle.kahn_syntax.proofs.Parsing.{ArgumentsPart, InstancePart, Open, SignClass, TokenPart, a_sign, arith, call, call_stops, stopped, expected, name, name_of, no_instance, one, one_lexeme, refl, sign, then, then_stops, unexpected, [], ◌∷◌}
use Rattle.kahn_syntax.proofs.parser.read_instance.Goals as goal

pub returns-in_err-process : goal.returns-in_err-process
returns-in_err-process c = stopped _ _ c.from_residual.result c.from_residual.ensures.1 (no_instance c.args.text.now [] c.args.input.now _ c.in_err-process.ensures.stop)

pub returns-in_err-rest : goal.returns-in_err-rest
returns-in_err-rest c = stopped _ _ c.from_residual-in_err-rest.result c.from_residual-in_err-rest.ensures.1 (then_stops _ (one c.args.text.now 0 (InstancePart) ([]) (TokenPart (a_sign Open) ∷ ArgumentsPart ∷ []) (name (name_of c.in_ok-process.process)) c.args.input.now c.in_ok-process.rest.now (λ s l. omega (arith, l)) (λ s. refl) c.in_ok-process.ensures.words) (unexpected c.args.text.now 0 (a_sign Open) (ArgumentsPart ∷ []) (SignClass Open) c.in_ok-process.rest.now _ refl c.in_err-rest.ensures.stop))

pub read_arguments-requires : goal.read_arguments-requires
read_arguments-requires c = record { proper = c.in_ok-rest.ensures.proper c.args.text.now c.in_ok-process.ensures.proper }

pub returns-in_err-arguments : goal.returns-in_err-arguments
returns-in_err-arguments c = stopped _ _ c.from_residual-in_err-arguments.result c.from_residual-in_err-arguments.ensures.1 (then_stops _ (then (one c.args.text.now 0 (InstancePart) ([]) (TokenPart (a_sign Open) ∷ ArgumentsPart ∷ []) (name (name_of c.in_ok-process.process)) c.args.input.now c.in_ok-process.rest.now (λ s l. omega (arith, l)) (λ s. refl) c.in_ok-process.ensures.words) (expected c.args.text.now 0 (a_sign Open) (ArgumentsPart ∷ []) (SignClass Open) c.in_ok-process.rest.now c.in_ok-rest.rest.now (λ s l. omega (arith, l)) refl c.in_ok-rest.ensures.first)) (call_stops c.args.text.now 0 0 (ArgumentsPart ∷ []) ([]) c.in_ok-rest.rest.now _ (λ s l. omega (arith, l)) c.in_err-arguments.ensures))

pub returns : goal.returns
returns c =
    record {
      spans = let T = c.args.text.now in (_, _, _, c.in_ok-process.ensures.spans, (one_lexeme T (sign Open) c.in_ok-process.rest.now c.in_ok-rest.rest.now c.in_ok-rest.ensures.passed (c.in_ok-rest.ensures.first.1 T)), c.in_ok-arguments.ensures.spans.1, c.in_ok-arguments.ensures.spans.2);
      shorter = omega (arith, c.in_ok-process.ensures.shorter, c.in_ok-rest.ensures.shorter, c.in_ok-arguments.ensures.shorter);
      proper = c.in_ok-arguments.ensures.proper;
      reads = (then (then (one c.args.text.now 0 (InstancePart) ([]) (TokenPart (a_sign Open) ∷ ArgumentsPart ∷ []) (name (name_of c.in_ok-process.process)) c.args.input.now c.in_ok-process.rest.now (λ s l. omega (arith, l)) (λ s. refl) c.in_ok-process.ensures.words) (expected c.args.text.now 0 (a_sign Open) (ArgumentsPart ∷ []) (SignClass Open) c.in_ok-process.rest.now c.in_ok-rest.rest.now (λ s l. omega (arith, l)) refl c.in_ok-rest.ensures.first)) (call c.args.text.now 0 0 (ArgumentsPart ∷ []) ([]) c.in_ok-rest.rest.now c.in_ok-arguments.rest.now (λ s l. omega (arith, l)) c.in_ok-arguments.ensures.reads));
    }
