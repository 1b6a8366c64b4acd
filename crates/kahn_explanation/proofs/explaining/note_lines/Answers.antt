use Rattle.kahn_explanation.proofs.Common.{◌≡◌, ◌<◌, All, arith, length, string_bytes, subst, take, take_all, All-more, StandsIn}
use Rattle.kahn_explanation.proofs.Noted.{all_longer, has_shown}
use Rattle.kahn_explanation.proofs.explaining.note_lines.Goals as goal

pub loop-note-preserved : goal.loop-note-preserved
loop-note-preserved c =
    let path = c.args.path.now in
    let text = c.args.text.now in
    let notes = c.args.notes.now in
    let i = c.loop-note.note-index in
    let below : i < length notes = omega arith in
    let shown =
    has_shown path text (string_bytes c.loop-note.lines) _ (string_bytes c.in_ok-one.one) _ _ _ _ c.note-item.result
    c.in_ok-one.ensures c.in_ok-push_str.ensures.bytes (rw c.as_str.ensures.value at c.in_ok-push_str-2.ensures.bytes) c.in_ok-push_str-3.ensures.bytes in
    let here = subst (StandsIn path text _) c.note-item.is shown.2 in
    All-more (StandsIn path text _) notes i c.note-item.result below (all_longer path text _ shown.0 _ (take i notes) shown.1 c.loop-note.invariant) here

pub returns : goal.returns
returns c =
    let notes = c.args.notes.now in
    let whole : take c.loop-note.note-index notes ≡ notes = take_all c.loop-note.note-index notes (omega arith) in
    subst (All (StandsIn c.args.path.now c.args.text.now (string_bytes c.loop-note.lines))) whole c.loop-note.invariant
