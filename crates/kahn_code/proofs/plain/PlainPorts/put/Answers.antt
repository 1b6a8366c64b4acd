use Rattle.kahn_code.proofs.Queued.{put_queued, put_leaves, put_moves, put_keeps, put_rooms}
use Rattle.kahn_code.proofs.plain.PlainPorts.put.Goals as goal

pub invariant_of-self : goal.invariant_of-self
invariant_of-self g c = put_queued c.self.view_is c.self.invariant c.args._parameter c.args.channel c.requires.writes.0 c.index_mut.ensures.value _ c.put.ensures.more

pub returns-clause-others : goal.returns-clause-others
returns-clause-others g c = put_leaves c.self.view_is c.self.invariant c.args._parameter c.args.channel c.requires.writes.0 c.index_mut.ensures.value _ c.put.ensures.more

pub returns-clause-moved : goal.returns-clause-moved
returns-clause-moved g c = put_moves c.self.view_is c.self.invariant c.args._parameter c.args.channel c.requires.writes.0 c.index_mut.ensures.value _ c.put.ensures.more

pub returns-clause-keeps : goal.returns-clause-keeps
returns-clause-keeps g c = put_keeps c.self.view_is c.self.invariant c.args._parameter c.args.channel c.requires.writes.0 c.index_mut.ensures.value _ c.put.ensures.more

pub returns-clause-rooms : goal.returns-clause-rooms
returns-clause-rooms g c = put_rooms c.self.view_is c.self.invariant c.args._parameter c.args.channel c.requires.writes.0 c.index_mut.ensures.value c.put.new.self
