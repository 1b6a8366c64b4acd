use Rattle.kahn_syntax.proofs.Parsing.{TakesAll, lexemes, ◌∷◌, Begin, Close, GroupsPart, Open, Semicolon, SignClass, Word, a_sign, a_word, arith, call, call_stops, drop, stopped, expected, head_parts, one_lexeme, refl, sign, then, then_stops, unexpected, word, []}
use Rattle.kahn_syntax.proofs.parser.declaration.read_head.Goals as goal

pub returns-in_err-rest : goal.returns-in_err-rest
returns-in_err-rest c =
    let T = c.args.text.now in let i = c.args.input.now in
    stopped _ _ c.from_residual.result c.from_residual.ensures.1 (unexpected T 0 (a_sign Open) (drop 1 head_parts) (SignClass Open) i _ refl c.in_err-rest.ensures.stop)

pub read_parameters-requires : goal.read_parameters-requires
read_parameters-requires c = record { proper = c.in_ok-rest.ensures.proper c.args.text.now c.requires.proper }

pub returns-in_err-parameters : goal.returns-in_err-parameters
returns-in_err-parameters c =
    let T = c.args.text.now in let i = c.args.input.now in
    let m1 = expected T 0 (a_sign Open) (drop 1 head_parts) (SignClass Open) i c.in_ok-rest.rest.now (λ s l. omega (arith, l)) refl c.in_ok-rest.ensures.first in
    stopped _ _ c.from_residual-in_err-parameters.result c.from_residual-in_err-parameters.ensures.1 (then_stops _ m1 (call_stops T 0 0 (GroupsPart ∷ []) (drop 2 head_parts) c.in_ok-rest.rest.now _ (λ s l. l) c.in_err-parameters.ensures))

pub returns-in_err-rest-2 : goal.returns-in_err-rest-2
returns-in_err-rest-2 c =
    let T = c.args.text.now in let i = c.args.input.now in
    let m1 = expected T 0 (a_sign Open) (drop 1 head_parts) (SignClass Open) i c.in_ok-rest.rest.now (λ s l. omega (arith, l)) refl c.in_ok-rest.ensures.first in
    let m2 = then m1 (call T 0 0 (GroupsPart ∷ []) (drop 2 head_parts) c.in_ok-rest.rest.now c.in_ok-parameters.rest.now (λ s l. l) c.in_ok-parameters.ensures.reads) in
    stopped _ _ c.from_residual-in_err-rest-2.result c.from_residual-in_err-rest-2.ensures.1 (then_stops _ m2 (unexpected T 0 (a_sign Close) (drop 3 head_parts) (SignClass Close) c.in_ok-parameters.rest.now _ refl c.in_err-rest-2.ensures.stop))

pub returns-in_err-rest-3 : goal.returns-in_err-rest-3
returns-in_err-rest-3 c =
    let T = c.args.text.now in let i = c.args.input.now in
    let m1 = expected T 0 (a_sign Open) (drop 1 head_parts) (SignClass Open) i c.in_ok-rest.rest.now (λ s l. omega (arith, l)) refl c.in_ok-rest.ensures.first in
    let m2 = then m1 (call T 0 0 (GroupsPart ∷ []) (drop 2 head_parts) c.in_ok-rest.rest.now c.in_ok-parameters.rest.now (λ s l. l) c.in_ok-parameters.ensures.reads) in
    let m3 = then m2 (expected T 0 (a_sign Close) (drop 3 head_parts) (SignClass Close) c.in_ok-parameters.rest.now c.in_ok-rest-2.rest.now (λ s l. omega (arith, l)) refl c.in_ok-rest-2.ensures.first) in
    stopped _ _ c.from_residual-in_err-rest-3.result c.from_residual-in_err-rest-3.ensures.1 (then_stops _ m3 (unexpected T 0 (a_sign Semicolon) (drop 4 head_parts) (SignClass Semicolon) c.in_ok-rest-2.rest.now _ refl c.in_err-rest-3.ensures.stop))

pub returns-in_err-rest-4 : goal.returns-in_err-rest-4
returns-in_err-rest-4 c =
    let T = c.args.text.now in let i = c.args.input.now in
    let m1 = expected T 0 (a_sign Open) (drop 1 head_parts) (SignClass Open) i c.in_ok-rest.rest.now (λ s l. omega (arith, l)) refl c.in_ok-rest.ensures.first in
    let m2 = then m1 (call T 0 0 (GroupsPart ∷ []) (drop 2 head_parts) c.in_ok-rest.rest.now c.in_ok-parameters.rest.now (λ s l. l) c.in_ok-parameters.ensures.reads) in
    let m3 = then m2 (expected T 0 (a_sign Close) (drop 3 head_parts) (SignClass Close) c.in_ok-parameters.rest.now c.in_ok-rest-2.rest.now (λ s l. omega (arith, l)) refl c.in_ok-rest-2.ensures.first) in
    let m4 = then m3 (expected T 0 (a_sign Semicolon) (drop 4 head_parts) (SignClass Semicolon) c.in_ok-rest-2.rest.now c.in_ok-rest-3.rest.now (λ s l. omega (arith, l)) refl c.in_ok-rest-3.ensures.first) in
    stopped _ _ c.from_residual-in_err-rest-4.result c.from_residual-in_err-rest-4.ensures.1 (then_stops _ m4 (unexpected T 0 (a_word Begin) [] (Word Begin) c.in_ok-rest-3.rest.now _ refl c.in_err-rest-4.ensures.stop))

pub returns : goal.returns
returns c =
    let T = c.args.text.now in let i = c.args.input.now in
    let m1 = expected T 0 (a_sign Open) (drop 1 head_parts) (SignClass Open) i c.in_ok-rest.rest.now (λ s l. omega (arith, l)) refl c.in_ok-rest.ensures.first in
    let m2 = then m1 (call T 0 0 (GroupsPart ∷ []) (drop 2 head_parts) c.in_ok-rest.rest.now c.in_ok-parameters.rest.now (λ s l. l) c.in_ok-parameters.ensures.reads) in
    let m3 = then m2 (expected T 0 (a_sign Close) (drop 3 head_parts) (SignClass Close) c.in_ok-parameters.rest.now c.in_ok-rest-2.rest.now (λ s l. omega (arith, l)) refl c.in_ok-rest-2.ensures.first) in
    let m4 = then m3 (expected T 0 (a_sign Semicolon) (drop 4 head_parts) (SignClass Semicolon) c.in_ok-rest-2.rest.now c.in_ok-rest-3.rest.now (λ s l. omega (arith, l)) refl c.in_ok-rest-3.ensures.first) in
    let ended : TakesAll (lexemes T) (word Begin ∷ []) c.in_ok-rest-3.rest.now c.in_ok-rest-4.rest.now =
    (c.in_ok-rest-4.rest.now, one_lexeme T (word Begin) c.in_ok-rest-3.rest.now c.in_ok-rest-4.rest.now c.in_ok-rest-4.ensures.passed (c.in_ok-rest-4.ensures.first.1 T), refl) in
    let begun : TakesAll (lexemes T) (sign Semicolon ∷ word Begin ∷ []) c.in_ok-rest-2.rest.now c.in_ok-rest-4.rest.now =
    (c.in_ok-rest-3.rest.now, one_lexeme T (sign Semicolon) c.in_ok-rest-2.rest.now c.in_ok-rest-3.rest.now c.in_ok-rest-3.ensures.passed (c.in_ok-rest-3.ensures.first.1 T), ended) in
    record {
      spans = (_, _, one_lexeme T (sign Open) i c.in_ok-rest.rest.now c.in_ok-rest.ensures.passed (c.in_ok-rest.ensures.first.1 T), c.in_ok-parameters.ensures.spans, (_, one_lexeme T (sign Close) c.in_ok-parameters.rest.now c.in_ok-rest-2.rest.now c.in_ok-rest-2.ensures.passed (c.in_ok-rest-2.ensures.first.1 T), begun));
      shorter = omega (arith, c.in_ok-rest.ensures.shorter, c.in_ok-parameters.ensures.shorter, c.in_ok-rest-2.ensures.shorter, c.in_ok-rest-3.ensures.shorter, c.in_ok-rest-4.ensures.shorter);
      proper = c.in_ok-rest-4.ensures.proper T (c.in_ok-rest-3.ensures.proper T (c.in_ok-rest-2.ensures.proper T c.in_ok-parameters.ensures.proper));
      reads = then m4 (expected T 0 (a_word Begin) [] (Word Begin) c.in_ok-rest-3.rest.now c.in_ok-rest-4.rest.now (λ s l. omega (arith, l)) refl c.in_ok-rest-4.ensures.first);
    }
