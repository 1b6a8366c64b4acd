use Rattle.kahn_syntax.proofs.Parsing.{LastTail, Semicolon, SignClass, a_sign, arith, ends, goes, inl, one_lexeme, refl, sign, []}
use Rattle.kahn_syntax.proofs.parser.past_semicolon.Goals as goal

pub returns-in-Some-clause-reads : goal.returns-in-Some-clause-reads
returns-in-Some-clause-reads c = λ text. goes text 0 LastTail (a_sign Semicolon) _ [] (SignClass Semicolon) c.args.input.now c.in-Some.rest.now (λ s l. omega (arith, l)) refl refl c.in-Some.ensures.first

pub returns-in-None-clause-reads : goal.returns-in-None-clause-reads
returns-in-None-clause-reads c = λ text. ends text 0 LastTail (a_sign Semicolon) _ [] (SignClass Semicolon) c.args.input.now refl refl c.in-None.ensures.absent

pub returns-in-Some-clause-spans : goal.returns-in-Some-clause-spans
returns-in-Some-clause-spans c = λ T. inl (one_lexeme T (sign Semicolon) c.args.input.now c.in-Some.rest.now c.in-Some.ensures.passed (c.in-Some.ensures.first.1 T))
