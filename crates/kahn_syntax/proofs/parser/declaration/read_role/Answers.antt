use Rattle.kahn_syntax.proofs.Parsing.{Input, Output, RolePart, Word, arith, false, nothing, one, refl, rules, rules_of, starts, terminals, [], ◌≡◌, ap, first_of, one_lexeme, word, ◌∙◌}
use Rattle.kahn_syntax.proofs.parser.declaration.read_role.Goals as goal

pub returns-in-Some-Word-Input-default-clause-spans : goal.returns-in-Some-Word-Input-default-clause-spans
returns-in-Some-Word-Input-default-clause-spans c = λ T. (c.in-Some-Word-Input-default.rest.now, one_lexeme T (word Input) c.args.input.now c.in-Some-Word-Input-default.rest.now c.in-Some-Word-Input-default.ensures.passed ((first_of _ (Word Input) c.args.input.now c.in-Some-Word-Input-default.rest.now (c.in-Some-Word-Input-default.field-0-0-is ∙ ap Word c.in-Some-Word-Input-default.field-0-0-0-is) c.in-Some-Word-Input-default.ensures.first.0).1 T), refl)

pub returns-in-Some-Word-Output-default-clause-spans : goal.returns-in-Some-Word-Output-default-clause-spans
returns-in-Some-Word-Output-default-clause-spans c = λ T. (c.in-Some-Word-Output-default.rest.now, one_lexeme T (word Output) c.args.input.now c.in-Some-Word-Output-default.rest.now c.in-Some-Word-Output-default.ensures.passed ((first_of _ (Word Output) c.args.input.now c.in-Some-Word-Output-default.rest.now (c.in-Some-Word-Output-default.field-0-0-is ∙ ap Word c.in-Some-Word-Output-default.field-0-0-0-is) c.in-Some-Word-Output-default.ensures.first.0).1 T), refl)

pub returns-in-Some-Word-Input-default-clause-reads : goal.returns-in-Some-Word-Input-default-clause-reads
returns-in-Some-Word-Input-default-clause-reads c = λ T. one T 0 RolePart [] [] (word Input) c.args.input.now c.in-Some-Word-Input-default.rest.now (λ s l. omega (arith, l)) (λ s. refl) ((first_of _ (Word Input) c.args.input.now c.in-Some-Word-Input-default.rest.now (c.in-Some-Word-Input-default.field-0-0-is ∙ ap Word c.in-Some-Word-Input-default.field-0-0-0-is) c.in-Some-Word-Input-default.ensures.first.0).1 T)

pub returns-in-Some-Word-Output-default-clause-reads : goal.returns-in-Some-Word-Output-default-clause-reads
returns-in-Some-Word-Output-default-clause-reads c = λ T. one T 0 RolePart [] [] (word Output) c.args.input.now c.in-Some-Word-Output-default.rest.now (λ s l. omega (arith, l)) (λ s. refl) ((first_of _ (Word Output) c.args.input.now c.in-Some-Word-Output-default.rest.now (c.in-Some-Word-Output-default.field-0-0-is ∙ ap Word c.in-Some-Word-Output-default.field-0-0-0-is) c.in-Some-Word-Output-default.ensures.first.0).1 T)

pub returns-in_default-clause-reads : goal.returns-in_default-clause-reads
returns-in_default-clause-reads c = λ T. let a : starts (rules_of RolePart).1 (terminals T c.args.input.now) ≡ false = search rules in nothing T 0 RolePart [] c.args.input.now refl a
