use Rattle.kahn_syntax.proofs.Parsing.{members_begin, members_more, members_end, Between, ArgumentPart, ArgumentSpans, ArgumentsPart, ArgumentsTail, Close, Comma, SignClass, Takes, TokenPart, a_sign, arith, call_stops, stopped, expected, one, one_lexeme, opens_arguments, refl, sign, some_between, subst, sym, then, then_stops, unexpected, [], ◌∷◌}
use Rattle.kahn_syntax.proofs.parser.read_arguments.Goals as goal

pub returns-in_err-argument : goal.returns-in_err-argument
returns-in_err-argument c = stopped _ _ c.from_residual.result c.from_residual.ensures.1 (then_stops _ c.arguments.invariant.reads
    (call_stops c.args.text.now 0 0 (ArgumentPart ∷ []) (ArgumentsTail ∷ TokenPart (a_sign Close) ∷ []) c.arguments.rest.now _ (λ s l. omega (arith, l)) c.in_err-argument.ensures))

pub arguments-init : goal.arguments-init
arguments-init c =
    members_begin c.args.text.now (sign Comma) (ArgumentSpans c.args.text.now) (ArgumentsPart ∷ []) (ArgumentPart ∷ ArgumentsTail ∷ TokenPart (a_sign Close) ∷ []) _ c.args.input.now c.new-arguments.ensures.items c.requires.proper
    (opens_arguments c.args.text.now [] c.args.input.now c.in_default.ensures.absent)

pub arguments-preserved : goal.arguments-preserved
arguments-preserved c =
    let T = c.args.text.now in let a = c.in_ok-argument.after.now in let j = c.in-Some-past.further.now in let f = c.in-Some-past.ensures in
    members_more T (sign Comma) (ArgumentSpans T) (a_sign Comma) (SignClass Comma) ArgumentPart ArgumentsTail _ (TokenPart (a_sign Close) ∷ []) _ _ c.in_ok-argument.argument c.args.input.now c.arguments.rest.now a
    refl refl c.arguments.invariant c.in_ok-argument.ensures c.in_ok-push.ensures.items j (λ s l. omega (arith, l)) (λ s l. l) f.first
    (one_lexeme T (sign Comma) a j f.passed (f.first.1 T)) f.shorter (f.proper T c.in_ok-argument.ensures.proper)

pub returns-in_err-left : goal.returns-in_err-left
returns-in_err-left c =
    let T = c.args.text.now in let a = c.in_ok-argument.after.now in
    let d = members_end T (sign Comma) (ArgumentSpans T) (a_sign Comma) (SignClass Comma) ArgumentPart ArgumentsTail (ArgumentsPart ∷ []) (TokenPart (a_sign Close) ∷ []) _ _ c.in_ok-argument.argument c.args.input.now c.arguments.rest.now a
    refl refl c.arguments.invariant c.in_ok-argument.ensures c.in_ok-push.ensures.items (λ s l. l) c.in_default-past.ensures.absent in
    stopped _ _ c.from_residual-in_err-left.result c.from_residual-in_err-left.ensures.1 (then_stops _ d.2 (unexpected T 0 (a_sign Close) [] (SignClass Close) a _ refl c.in_err-left.ensures.stop))

pub returns-in-Some : goal.returns-in-Some
returns-in-Some c =
    record {
      spans = let T = c.args.text.now in
          (c.args.input.now, subst (λ us. Between (Takes T (sign Comma)) (ArgumentSpans T) us c.args.input.now c.args.input.now) (sym c.new-arguments.ensures.items) refl, (one_lexeme T (sign Close) c.args.input.now c.in-Some.rest.now c.in-Some.ensures.passed (c.in-Some.ensures.first.1 T)));
      shorter = omega (arith, c.in-Some.ensures.shorter);
      proper = c.in-Some.ensures.proper c.args.text.now c.requires.proper;
      reads = (one c.args.text.now 0 (ArgumentsPart) ([]) ([]) (sign Close) c.args.input.now c.in-Some.rest.now (λ s l. omega (arith, l)) (λ s. refl) (c.in-Some.ensures.first.1 c.args.text.now));
    }

pub returns-in_default-past : goal.returns-in_default-past
returns-in_default-past c =
    let T = c.args.text.now in let a = c.in_ok-argument.after.now in let l = c.in_ok-left.left.now in
    let d = members_end T (sign Comma) (ArgumentSpans T) (a_sign Comma) (SignClass Comma) ArgumentPart ArgumentsTail (ArgumentsPart ∷ []) (TokenPart (a_sign Close) ∷ []) _ _ c.in_ok-argument.argument c.args.input.now c.arguments.rest.now a
    refl refl c.arguments.invariant c.in_ok-argument.ensures c.in_ok-push.ensures.items (λ s l. l) c.in_default-past.ensures.absent in
    record {
      spans = (a, some_between (Takes T (sign Comma)) (ArgumentSpans T) _ c.args.input.now a d.0, one_lexeme T (sign Close) a l c.in_ok-left.ensures.passed (c.in_ok-left.ensures.first.1 T));
      shorter = omega (arith, d.1, c.in_ok-left.ensures.shorter);
      proper = c.in_ok-left.ensures.proper T c.in_ok-argument.ensures.proper;
      reads = then d.2 (expected T 0 (a_sign Close) [] (SignClass Close) a l (λ s k. omega (arith, k)) refl c.in_ok-left.ensures.first);
    }
