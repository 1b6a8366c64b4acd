use Rattle.kahn_expected.proofs.Common.{BeginsWithin, Expected, IsFault, IsPlace, arith, length, subst, sym, take_all, terminals}
use Rattle.kahn_expected.proofs.Front.{at_end, at_nothing, at_other, found_there, within_first}
use Rattle.kahn_expected.proofs.found.place_of.Goals as goal

pub returns-in-Nothing-clause-place : goal.returns-in-Nothing-clause-place
returns-in-Nothing-clause-place c =
    let xs = c.args.lexemes.now in
    let n = c.count_before.result in
    let f = subst (λ w. IsFault c.args._text.now xs (Expected c.args.span w)) c.in-Nothing.is c.requires in
    subst (λ w. IsPlace xs c.args.span w n) (sym c.in-Nothing.is)
    (found_there c.args._text.now xs c.args.span n (at_nothing c.args._text.now xs c.args.span f) c.count_before.ensures.first c.count_before.ensures.within c.count_before.ensures.found)

pub returns-in-Other-clause-place : goal.returns-in-Other-clause-place
returns-in-Other-clause-place c =
    let xs = c.args.lexemes.now in
    let n = c.count_before-in-Other.result in
    let f = subst (λ w. IsFault c.args._text.now xs (Expected c.args.span w)) c.in-Other.is c.requires in
    subst (λ w. IsPlace xs c.args.span w n) (sym c.in-Other.is)
    (found_there c.args._text.now xs c.args.span n (at_other c.args._text.now xs c.args.span f) c.count_before-in-Other.ensures.first c.count_before-in-Other.ensures.within c.count_before-in-Other.ensures.found)

pub returns-in-More-clause-led : goal.returns-in-More-clause-led
returns-in-More-clause-led c =
    let xs = c.args.lexemes.now in
    subst (λ l. BeginsWithin (terminals c.args._text.now l)) (sym (take_all (length xs) xs (omega arith)))
    (at_end c.args._text.now xs c.args.span (subst (λ w. IsFault c.args._text.now xs (Expected c.args.span w)) c.in-More.is c.requires))

pub returns-in-Nothing-clause-led : goal.returns-in-Nothing-clause-led
returns-in-Nothing-clause-led c =
    let xs = c.args.lexemes.now in
    let f = subst (λ w. IsFault c.args._text.now xs (Expected c.args.span w)) c.in-Nothing.is c.requires in
    within_first c.args._text.now xs c.args.span c.count_before.result (at_nothing c.args._text.now xs c.args.span f) c.count_before.ensures.first

pub returns-in-Other-clause-led : goal.returns-in-Other-clause-led
returns-in-Other-clause-led c =
    let xs = c.args.lexemes.now in
    let f = subst (λ w. IsFault c.args._text.now xs (Expected c.args.span w)) c.in-Other.is c.requires in
    within_first c.args._text.now xs c.args.span c.count_before-in-Other.result (at_other c.args._text.now xs c.args.span f) c.count_before-in-Other.ensures.first
