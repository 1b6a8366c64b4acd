use Rattle.kahn_code.proofs.Common.{arith, sym, subst, ◌<◌, on_ok_weaker, on_err_weaker}
use Rattle.kahn_code.proofs.Queued.{write_inside, room_queued, room_stays, room_leaves, room_keeps, room_there, room_here, room_gone, room_rooms, written_by}
use Rattle.kahn_code.proofs.plain.PlainPorts.room.Goals as goal

pub index_mut-requires : goal.index_mut-requires
index_mut-requires g c = let inside = write_inside c.self.view_is c.self.invariant c.args._parameter c.args.channel c.requires.0 in omega (arith, inside, c.self.inside.queues.ok.0)

pub room-requires : goal.room-requires
room-requires g c = written_by c.self.view_is c.self.invariant c.args._parameter c.args.channel c.requires.0 c.index_mut.ensures.value

pub invariant_of-self : goal.invariant_of-self
invariant_of-self g c = room_queued c.self.view_is c.self.invariant c.args._parameter c.args.channel c.requires.0 c.index_mut.ensures.value _ c.room.ensures.more

pub returns-clause-others : goal.returns-clause-others
returns-clause-others g c = room_leaves c.self.view_is c.self.invariant c.args._parameter c.args.channel c.requires.0 c.index_mut.ensures.value _ c.room.ensures.more

pub returns-clause-next : goal.returns-clause-next
returns-clause-next g c = room_stays c.self.view_is c.self.invariant c.args._parameter c.args.channel c.requires.0 c.index_mut.ensures.value _ c.room.ensures.more

pub returns-clause-room : goal.returns-clause-room
returns-clause-room g c =
    on_ok_weaker c.room.result
    (room_there c.self.view_is c.self.invariant c.args._parameter c.args.channel c.requires.0 c.index_mut.ensures.value _ c.room.ensures.more) c.room.ensures.room

pub returns-clause-keeps : goal.returns-clause-keeps
returns-clause-keeps g c = room_keeps c.self.view_is c.self.invariant c.args._parameter c.args.channel c.requires.0 c.index_mut.ensures.value _ c.room.ensures.more

pub returns-clause-full : goal.returns-clause-full
returns-clause-full g c =
    on_err_weaker c.room.result
    (room_gone c.self.view_is c.self.invariant c.args._parameter c.args.channel c.requires.0 c.index_mut.ensures.value c.room.new.self) c.room.ensures.full

pub returns-clause-spare : goal.returns-clause-spare
returns-clause-spare g c there =
    (c.room.ensures.spare (room_here c.self.view_is c.self.invariant c.args._parameter c.args.channel c.requires.0 c.index_mut.ensures.value c.room.new.self there)).0

pub returns-clause-rooms : goal.returns-clause-rooms
returns-clause-rooms g c =
    room_rooms c.self.view_is c.self.invariant c.args._parameter c.args.channel c.requires.0 c.index_mut.ensures.value c.room.new.self
    (λ there. subst (λ w. 0 < w.spare) (sym (c.room.ensures.spare there).1) there)
