use Rattle.kahn_explanation.proofs.Common.{None, inl, refl, string_bytes, subst, MatchOption, IsNoteOn, IsRefusal}
use Rattle.kahn_explanation.proofs.Parts.{refusal_out, unplaced}
use Rattle.kahn_explanation.proofs.explaining.refuse.Goals as goal

pub returns-in-Ok-Some : goal.returns-in-Ok-Some
returns-in-Ok-Some g c strict =
    let path = c.args.path.now in
    let program = c.args.program.now in
    let note = c.in-Ok-Some.note in
    let on = subst (λ o. MatchOption o (IsRefusal path program c.args.fault None) (IsNoteOn path program)) c.in-Ok-Some.field-0-is c.in-Ok-Some.ensures in
    refusal_out path program strict (string_bytes note) _ _ _ (inl (note, on, refl)) (rw c.as_str.ensures.value at c.write_both.ensures)

pub returns-in-Ok-None : goal.returns-in-Ok-None
returns-in-Ok-None g c strict =
    let path = c.args.path.now in
    let program = c.args.program.now in
    unplaced path program strict _ c.args.fault c.requires
    (subst (λ o. MatchOption o (IsRefusal path program c.args.fault None) (IsNoteOn path program)) c.in-Ok-None.field-0-is c.in-Ok-None.ensures)
