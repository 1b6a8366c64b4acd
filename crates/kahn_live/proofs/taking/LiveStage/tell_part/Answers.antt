use Rattle.kahn_live.proofs.Common.{Keeps-refl, refl, telling_of}
use Rattle.kahn_live.proofs.Meeting.{none_told}
use Rattle.kahn_live.proofs.taking.LiveStage.tell_part.Goals as goal

pub returns-then-is_quiet-clause-told : goal.returns-then-is_quiet-clause-told
returns-then-is_quiet-clause-told g c =
    let stage = c.args.self.now in
    let told = telling_of g.E.Write.contents stage.teller in
    let quiet = c.is_quiet.ensures c.if-is_quiet.true in
    let none = none_told stage.session c.args.number c.args.line.now c.args.verdict told c.new_fault-first.result c.is_verdict_new-wanted.result c.new_fault-first.ensures c.is_verdict_new-wanted.ensures quiet.0 quiet.1 in
    (none, (refl, Keeps-refl (g.W.Write.contents stage.outlet.writer)))
