use Rattle.kahn_syntax.proofs.Parsing.{ArgumentPart, False, IsUnsigned, Minus, NameClass, Number, Refused, SignClass, Takes, TokenPart, True, Word, a_number, absent, ap, argument_rules, arith, stopped, false, first_of, inl, inr, length, name, name_of, number_fits, one, one_argument, one_lexeme, only_memory, refl, refused, rules, sign, starts, subst, sym, terminals, then, then_stops, to_z-of_z, token, w64, word, [], ◌∙◌, ◌∷◌, ◌≡◌}
use Rattle.kahn_syntax.specs.Grammar.{numeral}
use Rattle.kahn_syntax.proofs.parser.read_argument.Goals as goal

pub returns-in_err-name-in-Some-Name-default : goal.returns-in_err-name-in-Some-Name-default
returns-in_err-name-in-Some-Name-default c = stopped _ _ c.from_residual.result c.from_residual.ensures.1 (only_memory c.args.text.now 0 (ArgumentPart ∷ []) c.args.input.now _ _ (first_of _ NameClass c.args.input.now c.in-Some-Name-default.field-0-1.now c.in-Some-Name-default.field-0-0-is c.in-Some-Name-default.ensures.first.0) c.in_err-name-in-Some-Name-default.ensures.stop)

pub returns-in_default : goal.returns-in_default
returns-in_default c =
    let a : starts argument_rules (terminals c.args.text.now c.args.input.now) ≡ false = search rules in refused c.args.text.now 0 ArgumentPart [] c.args.input.now _ refl a refl

pub returns-in_default-next_negative : goal.returns-in_default-next_negative
returns-in_default-next_negative c =
    then_stops (Refused false (length c.in-Some-Sign-Minus-default.rest.now)) (one c.args.text.now 0 (ArgumentPart) ([]) (TokenPart a_number ∷ []) (sign Minus) c.args.input.now c.in-Some-Sign-Minus-default.rest.now (λ s l. omega (arith, l)) (λ s. refl) ((first_of _ (SignClass Minus) c.args.input.now c.in-Some-Sign-Minus-default.rest.now (c.in-Some-Sign-Minus-default.field-0-0-is ∙ ap SignClass c.in-Some-Sign-Minus-default.field-0-0-0-is) c.in-Some-Sign-Minus-default.ensures.first.0).1 c.args.text.now)) (absent c.args.text.now 0 a_number [] c.in-Some-Sign-Minus-default.rest.now (Refused false (length c.in-Some-Sign-Minus-default.rest.now)) (c.in_default-next_negative.ensures.absent c.args.text.now (c.in-Some-Sign-Minus-default.ensures.proper c.args.text.now c.requires.proper)) refl)

pub returns-in-Some-Number-default : goal.returns-in-Some-Number-default
returns-in-Some-Number-default c =
    let T = c.args.text.now in
    let u = subst IsUnsigned c.in-Some-Number-default.field-0-0-is (c.in-Some-Number-default.ensures.unsigned T c.requires.proper) in
    let takes = one_lexeme T (numeral c.in-Some-Number-default.number) c.args.input.now c.in-Some-Number-default.rest.now c.in-Some-Number-default.ensures.passed ((first_of _ (Number c.in-Some-Number-default.number) c.args.input.now c.in-Some-Number-default.rest.now c.in-Some-Number-default.field-0-0-is c.in-Some-Number-default.ensures.first.0).1 T) in
    one_argument T _ (numeral c.in-Some-Number-default.number) c.args.input.now c.in-Some-Number-default.rest.now
    (c.reach.ensures, inl (subst (λ z. Takes T (numeral z) c.args.input.now c.in-Some-Number-default.rest.now) (sym (to_z-of_z w64 c.in-Some-Number-default.number (number_fits c.in-Some-Number-default.number u.0 u.1 u.2))) takes)) c.in-Some-Number-default.ensures.first.1
    (c.in-Some-Number-default.ensures.proper T c.requires.proper) (λ s. refl) ((first_of _ (Number c.in-Some-Number-default.number) c.args.input.now c.in-Some-Number-default.rest.now c.in-Some-Number-default.field-0-0-is c.in-Some-Number-default.ensures.first.0).1 T)

pub returns-in-Some-Word-True-default : goal.returns-in-Some-Word-True-default
returns-in-Some-Word-True-default c =
    let T = c.args.text.now in
    one_argument T _ (word True) c.args.input.now c.in-Some-Word-True-default.rest.now (c.reach-in-Some-Word-True-default.ensures, one_lexeme T (word True) c.args.input.now c.in-Some-Word-True-default.rest.now c.in-Some-Word-True-default.ensures.passed ((first_of _ (Word True) c.args.input.now c.in-Some-Word-True-default.rest.now (c.in-Some-Word-True-default.field-0-0-is ∙ ap Word c.in-Some-Word-True-default.field-0-0-0-is) c.in-Some-Word-True-default.ensures.first.0).1 T)) c.in-Some-Word-True-default.ensures.first.1
    (c.in-Some-Word-True-default.ensures.proper T c.requires.proper) (λ s. refl) ((first_of _ (Word True) c.args.input.now c.in-Some-Word-True-default.rest.now (c.in-Some-Word-True-default.field-0-0-is ∙ ap Word c.in-Some-Word-True-default.field-0-0-0-is) c.in-Some-Word-True-default.ensures.first.0).1 T)

pub returns-in-Some-Word-False-default : goal.returns-in-Some-Word-False-default
returns-in-Some-Word-False-default c =
    let T = c.args.text.now in
    one_argument T _ (word False) c.args.input.now c.in-Some-Word-False-default.rest.now (c.reach-in-Some-Word-False-default.ensures, one_lexeme T (word False) c.args.input.now c.in-Some-Word-False-default.rest.now c.in-Some-Word-False-default.ensures.passed ((first_of _ (Word False) c.args.input.now c.in-Some-Word-False-default.rest.now (c.in-Some-Word-False-default.field-0-0-is ∙ ap Word c.in-Some-Word-False-default.field-0-0-0-is) c.in-Some-Word-False-default.ensures.first.0).1 T)) c.in-Some-Word-False-default.ensures.first.1
    (c.in-Some-Word-False-default.ensures.proper T c.requires.proper) (λ s. refl) ((first_of _ (Word False) c.args.input.now c.in-Some-Word-False-default.rest.now (c.in-Some-Word-False-default.field-0-0-is ∙ ap Word c.in-Some-Word-False-default.field-0-0-0-is) c.in-Some-Word-False-default.ensures.first.0).1 T)

pub returns-in-Some : goal.returns-in-Some
returns-in-Some c =
    record {
      spans = let T = c.args.text.now in (c.reach-in-Some-Sign-Minus-default.ensures, inr (c.in-Some.ensures.number.0, _, search rules, (one_lexeme T (sign Minus) c.args.input.now c.in-Some-Sign-Minus-default.rest.now c.in-Some-Sign-Minus-default.ensures.passed ((first_of _ (SignClass Minus) c.args.input.now c.in-Some-Sign-Minus-default.rest.now (c.in-Some-Sign-Minus-default.field-0-0-is ∙ ap SignClass c.in-Some-Sign-Minus-default.field-0-0-0-is) c.in-Some-Sign-Minus-default.ensures.first.0).1 T)), one_lexeme T (numeral c.in-Some.ensures.number.0) c.in-Some-Sign-Minus-default.rest.now c.in-Some.after.now c.in-Some.ensures.passed (c.in-Some.ensures.number.2 T)));
      shorter = omega (arith, c.in-Some-Sign-Minus-default.ensures.first.1, c.in-Some.ensures.shorter);
      proper = c.in-Some.ensures.proper c.args.text.now (c.in-Some-Sign-Minus-default.ensures.proper c.args.text.now c.requires.proper);
      reads = then (one c.args.text.now 0 ArgumentPart [] (TokenPart a_number ∷ []) (sign Minus) c.args.input.now c.in-Some-Sign-Minus-default.rest.now (λ s l. omega (arith, l)) (λ s. refl) ((first_of _ (SignClass Minus) c.args.input.now c.in-Some-Sign-Minus-default.rest.now (c.in-Some-Sign-Minus-default.field-0-0-is ∙ ap SignClass c.in-Some-Sign-Minus-default.field-0-0-0-is) c.in-Some-Sign-Minus-default.ensures.first.0).1 c.args.text.now)) (token c.args.text.now 0 a_number [] (numeral c.in-Some.ensures.number.0) c.in-Some-Sign-Minus-default.rest.now c.in-Some.after.now (λ s l. omega (arith, l)) refl (c.in-Some.ensures.number.2 c.args.text.now));
    }

pub returns-in_ok-name-in-Some-Name-default : goal.returns-in_ok-name-in-Some-Name-default
returns-in_ok-name-in-Some-Name-default c =
    one_argument c.args.text.now _ (name (name_of c.in_ok-name-in-Some-Name-default.name)) c.args.input.now c.in_ok-name-in-Some-Name-default.rest.now c.in_ok-name-in-Some-Name-default.ensures.spans c.in_ok-name-in-Some-Name-default.ensures.shorter c.in_ok-name-in-Some-Name-default.ensures.proper (λ s. refl) c.in_ok-name-in-Some-Name-default.ensures.words
