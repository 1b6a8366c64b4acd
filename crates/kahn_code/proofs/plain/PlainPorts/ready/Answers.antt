use Rattle.std.proofs.Common.{arith}
use Rattle.std.proofs.lemmas.Bool.Decides.{nat_tests}
use Rattle.kahn_code.proofs.Queued.{read_inside, queue_read}
use Rattle.kahn_code.proofs.plain.PlainPorts.ready.Goals as goal

pub index-requires : goal.index-requires
index-requires g c = let inside = read_inside c.self.view_is c.self.invariant c.args._parameter c.args.channel c.requires in omega (arith, inside, c.self.inside.queues.ok.0)

pub returns-clause-yes : goal.returns-clause-yes
returns-clause-yes g c told = rw (queue_read c.self.view_is c.self.invariant c.args._parameter c.args.channel c.requires c.index.ensures) (let l = c.len.ensures in grind (arith, nat_tests))

pub returns-clause-dry : goal.returns-clause-dry
returns-clause-dry g c told = rw (queue_read c.self.view_is c.self.invariant c.args._parameter c.args.channel c.requires c.index.ensures) (let l = c.len.ensures in grind (arith, nat_tests))
