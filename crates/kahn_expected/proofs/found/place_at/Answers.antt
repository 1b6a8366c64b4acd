use Rattle.kahn_expected.proofs.Common.{AreLexemes, Class, Contains, Expected, IsFault, subst, sym, take, terminals, told_classes, ◌↔◌}
use Rattle.kahn_expected.proofs.{Classes.wanted_of, Front.at_place, Front.of_lexemes}
use Rattle.kahn_expected.proofs.found.place_at.Goals as goal

pub place_of-number-requires : goal.place_of-number-requires
place_of-number-requires c =
    let text = c.args.text.now in
    subst (λ l. IsFault text l (Expected c.args.span c.args.what)) (sym c.as_slice-items.ensures.value) (of_lexemes text c.in-Ok.lexemes.items c.args.span c.args.what c.in-Ok.ensures.lexed c.requires)

pub returns : goal.returns
returns c =
    let text = c.args.text.now in
    let xs = c.as_slice-items.result.now in
    let n = c.place_of-number.result in
    let w = c.in_ok-wanted.wanted in (
      xs,
      subst (AreLexemes text) (sym c.as_slice-items.ensures.value) c.in-Ok.ensures.lexed,
      at_place text xs c.args.span c.args.what n _ c.place_of-number.ensures.place c.lexeme_at-found.ensures
          (wanted_of (terminals text (take n xs)) c.in_ok-classes.classes.items w (c.in_ok-classes.ensures text)
          (subst (λ l. (x : Class) → Contains (told_classes w) x ↔ Contains l x) c.deref.ensures.value c.in_ok-wanted.ensures)),
    )
