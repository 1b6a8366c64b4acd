use Rattle.std.proofs.Common.{◌≡◌, ◌==◌, ◌∙◌, [], ap, length, string_bytes, true}
use Rattle.kahn_explanation.proofs.{Noted.all_longer, Refused.told_faults}
use Rattle.kahn_explanation.proofs.explaining.network_note.Goals as goal

pub returns : goal.returns
returns c =
    let path = c.args.path.now in
    let program = c.args.program.now in
    let faults = c.in_ok-faults.faults.items in
    let told = c.in_ok-told in
    let some : faults ≡ [] → ⊥ =
    (λ e. let none : c.is_empty.result ≡ true = c.is_empty.ensures ∙ ap (λ n. n == 0) (c.in_ok-faults.faults.ok.0 ∙ ap length e) in cc (none, c.if-is_empty.false)) in
    let tells = rw c.deref.ensures.value at told.ensures.told in
    let some_told = rw c.deref.ensures.value at told.ensures.some in
    let lines = string_bytes c.add_more.new.text in
    let stand = rw c.deref-2.ensures.value at c.in_ok-lines.ensures in
    let all = all_longer path program _ _ lines told.told.notes.items c.in_ok-add_more.ensures stand in
    told_faults path program c.in-Ok.tree faults c.add_more.new.text (c.in-Ok.ensures.spells, c.in-Ok.ensures.nesting) some c.in_ok-faults.ensures (c.part_by_part.ensures.first c.in-Ok.tree)
    (told.told.notes.items, tells, some_told, all)
