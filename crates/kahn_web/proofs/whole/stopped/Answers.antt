use Rattle.kahn_web.proofs.Common.{Some, Ok, ◌++◌, List, ℕ, ap₂, subst, HasWritten, Stopped, alone}
use Rattle.kahn_explanation.proofs.Right_ends.{answered}
use Rattle.kahn_web.proofs.Reasons.{stopped}
use Rattle.kahn_web.proofs.whole.stopped.Goals as goal

pub explained-requires : goal.explained-requires
explained-requires c =
    answered c.args.program.now c.args.it.now.network (alone c.args._bound) c.requires.run.0 c.args.answer.now c.requires.admitted.checked c.requires.run.2

pub returns-in-Ok-write_both : goal.returns-in-Ok-write_both
returns-in-Ok-write_both c =
    let words = c.in-Ok-explained.words in
    let text : List ℕ = c.as_str-notes.result.now ++ c.as_str.result.now in
    let new = c.write_both.new.writer.items in
    stopped c.args.program.now c.args.input.now c.args._bound c.args.it.now c.args.answer.now words new text (Stopped words.told) c.in-Ok-write_both.field-0
    c.requires.admitted c.requires.run c.in-Ok-explained.ensures
    (ap₂ (λ (a : List ℕ) (b : List ℕ). a ++ b) c.as_str-notes.ensures.value c.as_str.ensures.value)
    (subst (λ none. HasWritten text (Stopped words.told) (Some none) (Some new) (Ok c.in-Ok-write_both.field-0)) c.new-written.ensures.items c.in-Ok-write_both.ensures)
