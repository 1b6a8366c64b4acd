use Rattle.kahn_pool.proofs.Common.{sight_of}
use Rattle.kahn_pool.proofs.Handing.{few_events}
use Rattle.kahn_pool.proofs.running.hand_room.Goals as goal

pub lanes-requires-clause-few : goal.lanes-requires-clause-few
lanes-requires-clause-few c = few_events (sight_of c.args.bench.now) c.requires.may.0 c.requires.may.1
