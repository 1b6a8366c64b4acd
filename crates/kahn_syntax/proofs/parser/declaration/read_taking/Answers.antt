use Rattle.kahn_syntax.proofs.Parsing.{TakingPart, arith, false, nothing, one, refl, rules, rules_of, starts, terminals, [], ◌≡◌, In, Out, Word, ap, first_of, one_lexeme, word, ◌∙◌}
use Rattle.kahn_syntax.proofs.parser.declaration.read_taking.Goals as goal

pub returns-in-Some-Word-In-default-clause-spans : goal.returns-in-Some-Word-In-default-clause-spans
returns-in-Some-Word-In-default-clause-spans c = λ T xs t. (c.args.input.now, t, (c.in-Some-Word-In-default.rest.now, one_lexeme T (word In) c.args.input.now c.in-Some-Word-In-default.rest.now c.in-Some-Word-In-default.ensures.passed ((first_of _ (Word In) c.args.input.now c.in-Some-Word-In-default.rest.now (c.in-Some-Word-In-default.field-0-0-is ∙ ap Word c.in-Some-Word-In-default.field-0-0-0-is) c.in-Some-Word-In-default.ensures.first.0).1 T), refl))

pub returns-in-Some-Word-Out-default-clause-spans : goal.returns-in-Some-Word-Out-default-clause-spans
returns-in-Some-Word-Out-default-clause-spans c = λ T xs t. (c.args.input.now, t, (c.in-Some-Word-Out-default.rest.now, one_lexeme T (word Out) c.args.input.now c.in-Some-Word-Out-default.rest.now c.in-Some-Word-Out-default.ensures.passed ((first_of _ (Word Out) c.args.input.now c.in-Some-Word-Out-default.rest.now (c.in-Some-Word-Out-default.field-0-0-is ∙ ap Word c.in-Some-Word-Out-default.field-0-0-0-is) c.in-Some-Word-Out-default.ensures.first.0).1 T), refl))

pub returns-in_default-clause-spans : goal.returns-in_default-clause-spans
returns-in_default-clause-spans c = λ T xs t. (c.args.input.now, t, refl)

pub returns-in-Some-Word-In-default-clause-reads : goal.returns-in-Some-Word-In-default-clause-reads
returns-in-Some-Word-In-default-clause-reads c = λ T. one T 0 TakingPart [] [] (word In) c.args.input.now c.in-Some-Word-In-default.rest.now (λ s l. omega (arith, l)) (λ s. refl) ((first_of _ (Word In) c.args.input.now c.in-Some-Word-In-default.rest.now (c.in-Some-Word-In-default.field-0-0-is ∙ ap Word c.in-Some-Word-In-default.field-0-0-0-is) c.in-Some-Word-In-default.ensures.first.0).1 T)

pub returns-in-Some-Word-Out-default-clause-reads : goal.returns-in-Some-Word-Out-default-clause-reads
returns-in-Some-Word-Out-default-clause-reads c = λ T. one T 0 TakingPart [] [] (word Out) c.args.input.now c.in-Some-Word-Out-default.rest.now (λ s l. omega (arith, l)) (λ s. refl) ((first_of _ (Word Out) c.args.input.now c.in-Some-Word-Out-default.rest.now (c.in-Some-Word-Out-default.field-0-0-is ∙ ap Word c.in-Some-Word-Out-default.field-0-0-0-is) c.in-Some-Word-Out-default.ensures.first.0).1 T)

pub returns-in_default-clause-reads : goal.returns-in_default-clause-reads
returns-in_default-clause-reads c = λ T. let a : starts (rules_of TakingPart).1 (terminals T c.args.input.now) ≡ false = search rules in nothing T 0 TakingPart [] c.args.input.now refl a
