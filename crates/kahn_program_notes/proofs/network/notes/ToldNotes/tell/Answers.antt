use Rattle.kahn_program_notes.proofs.Telling.{one_more}
use Rattle.kahn_program_notes.proofs.network.notes.ToldNotes.tell.Goals as goal

pub returns-clause-told : goal.returns-clause-told
returns-clause-told c = one_more c.args.text.now c.args.faults.now c.in_ok-note.note c.args.fault c.args.self.now.notes.items c.push-2.new.self.items c.in_ok-note.ensures c.in_ok-push-3.ensures.items
