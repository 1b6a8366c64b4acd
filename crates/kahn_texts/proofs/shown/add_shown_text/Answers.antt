use Rattle.std.proofs.lemmas.Str.{IsUtf8-past_char, chars_past_char}
use Rattle.kahn_texts.proofs.Characters.{shown_more, shown_whole}
use Rattle.kahn_texts.proofs.shown.add_shown_text.Goals as goal

pub loop-character-preserved : goal.loop-character-preserved
loop-character-preserved c =
    let held = c.loop-character.invariant in
    let steps = c.in-Some.ensures.steps in (
      IsUtf8-past_char _ _ c.in-Some.character held.0 steps.0,
      shown_more c.in-Some.character _ _ _ _ _ (chars_past_char _ _ c.in-Some.character held.0 steps.0) c.in_ok-add_shown.ensures held.1,
    )

pub returns : goal.returns
returns c = shown_whole _ _ _ c.in-None.ensures.steps.0.0 c.loop-character.invariant.1
