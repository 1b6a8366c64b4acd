use Rattle.kahn_pool.proofs.Common.{length, refl, reads_listed, slice_get_read}
use Rattle.kahn_pool.proofs.Ended.{dry_told, taken_long}
use Rattle.kahn_pool.proofs.held.dry_outcome.Goals as goal

pub channel_read-channel-requires : goal.channel_read-channel-requires
channel_read-channel-requires c = rw c.args.part.now.fits c.requires.reads

pub taken-taken-requires : goal.taken-taken-requires
taken-taken-requires c =
    let tasks = c.args.tasks.now in
    let y = c.index-tasks-instance.result in
    let at = slice_get_read tasks (length tasks) c.args.instance y refl c.requires.here c.index-tasks-instance.is in
    taken_long c.args.part.now.network.now tasks c.args.instance c.args.parameter c.requires.reads.0 _ y c.requires.told at c.requires.reads.1 c.parameters-parameters.ensures.counts.taken_size

pub given-requires-clause-here : goal.given-requires-clause-here
given-requires-clause-here c =
    reads_listed c.args.part.now.network.now c.program-program.ensures.wired c.args.instance c.args.parameter c.channel_read-channel.result (rw c.args.part.now.fits at c.channel_read-channel.ensures)

pub returns-then-taken-given : goal.returns-then-taken-given
returns-then-taken-given c x e s =
    let tasks = c.args.tasks.now in
    let y = c.index-tasks-instance.result in
    let at = slice_get_read tasks (length tasks) c.args.instance y refl c.requires.here c.index-tasks-instance.is in
    (dry_told c.args.part.now.network.now c.args.part.now.input.now tasks c.args.instance c.args.parameter c.channel_read-channel.result c.given.result c.taken-taken.result c.program-program.ensures.wired
    c.requires.told (rw c.args.part.now.fits at c.channel_read-channel.ensures) c.given.ensures y x at e c.taken-taken.ensures s).0 c.if-taken-given.true

pub returns-else-taken-given : goal.returns-else-taken-given
returns-else-taken-given c x e s =
    let tasks = c.args.tasks.now in
    let y = c.index-tasks-instance.result in
    let at = slice_get_read tasks (length tasks) c.args.instance y refl c.requires.here c.index-tasks-instance.is in
    (dry_told c.args.part.now.network.now c.args.part.now.input.now tasks c.args.instance c.args.parameter c.channel_read-channel.result c.given.result c.taken-taken.result c.program-program.ensures.wired
    c.requires.told (rw c.args.part.now.fits at c.channel_read-channel.ensures) c.given.ensures y x at e c.taken-taken.ensures s).1 c.if-taken-given.false
