use Rattle.std.proofs.Common.{◌∙◌, sym}
use Rattle.kahn_code.proofs.Nested_lists.{on_ok_there}
use Rattle.kahn_code.proofs.Poured as Poured
use Rattle.kahn_code.proofs.plain.Plain.pour.Goals as goal

pub invariant_of-self : goal.invariant_of-self
invariant_of-self g c = Poured.roomier_queued c.self.view_is c.self.invariant c.args.channel c.requires.1.0 c.index_mut.ensures.value c.room_for.new.self c.room_for.ensures.more

pub returns-then-is_err : goal.returns-then-is_err
returns-then-is_err g c = Poured.roomier_poured c.self.view_is c.self.invariant c.args.channel c.requires.1.0 c.index_mut.ensures.value c.room_for.new.self c.room_for.ensures.more

pub regrow_all-requires : goal.regrow_all-requires
regrow_all-requires g c κs within = (within, Poured.roomier_grows c.self.view_is c.self.invariant c.args.channel c.requires.1.0 c.index_mut.ensures.value c.room_for.new.self c.room_for.ensures.more c.args.values.now g.input c.requires.1.1.0)

pub give_all-requires-clause-room : goal.give_all-requires-clause-room
give_all-requires-clause-room g c = Poured.then_room c.self.view_is c.self.invariant c.args.channel c.requires.1.0 c.index_mut.ensures.value c.room_for.new.self c.room_for.ensures.more c.args.values.now g.input c.requires.1.1.0 c.regrow_all.ensures c.index_mut-2.ensures.value (on_ok_there c.room_for.result (sym c.is_err.ensures.value ∙ c.if-is_err.false) c.room_for.ensures.room)

pub give_all-requires-clause-given : goal.give_all-requires-clause-given
give_all-requires-clause-given g c = Poured.then_given c.self.view_is c.self.invariant c.args.channel c.requires.1.0 c.index_mut.ensures.value c.room_for.new.self c.room_for.ensures.more c.args.values.now g.input c.requires.1.1.0 c.regrow_all.ensures c.index_mut-2.ensures.value c.requires.1.1.1

pub invariant_of-self-2 : goal.invariant_of-self-2
invariant_of-self-2 g c = Poured.poured_queued c.self.view_is c.self.invariant c.args.channel c.requires.1.0 c.index_mut.ensures.value c.room_for.new.self c.room_for.ensures.more c.args.values.now g.input c.requires.1.1.0 c.regrow_all.ensures c.index_mut-2.ensures.value c.give_all.new.queue c.give_all.ensures.more c.named.ensures

pub returns : goal.returns
returns g c = Poured.has_poured c.self.view_is c.self.invariant c.args.channel c.requires.1.0 c.index_mut.ensures.value c.room_for.new.self c.room_for.ensures.more c.args.values.now g.input c.requires.1.1.0 c.regrow_all.ensures c.index_mut-2.ensures.value c.give_all.new.queue c.give_all.ensures.more c.named.ensures
