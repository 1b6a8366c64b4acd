use Rattle.std.proofs.Common.{◌∙◌, sym}
use Rattle.std.proofs.lemmas.Str.{IsUtf8-past_char, chars_past_char}
use Rattle.kahn_texts.proofs.Characters.{at_end, ends, goes_on, same_end}
use Rattle.kahn_texts.proofs.shown.shown_length.Goals as goal

pub returns-then-ends_before-clause-shown : goal.returns-then-ends_before-clause-shown
returns-then-ends_before-clause-shown c =
    let (utf8, _, shown) = c.loop-at.invariant in
    let (at, front, _) = c.in-Some.ensures.steps in
    ends _ _ c.in-Some.at c.in-Some.character _ _ shown (chars_past_char _ _ c.in-Some.character utf8 front) at (sym c.ends_before.ensures ∙ c.if-ends_before.true)

pub loop-at-preserved : goal.loop-at-preserved
loop-at-preserved c =
    let (utf8, within, shown) = c.loop-at.invariant in
    let (at, front, step) = c.in-Some.ensures.steps in
    let character = c.in-Some.character in (
      IsUtf8-past_char _ _ character utf8 front,
      same_end _ _ _ character _ _ within front step,
      goes_on _ _ c.in-Some.at _ character _ _ shown (chars_past_char _ _ character utf8 front) at step (sym c.ends_before.ensures ∙ c.if-ends_before.false),
    )

pub returns-clause-shown : goal.returns-clause-shown
returns-clause-shown c =
    let (_, within, shown) = c.loop-at.invariant in
    at_end _ _ _ _ within shown c.in-None.ensures.steps.0
