use Rattle.kahn_needs.proofs.Searching.{taken_listed}
use Rattle.kahn_needs.proofs.bench.Bench.taken_from.Goals as goal

pub taken_from-requires : goal.taken_from-requires
taken_from-requires c = taken_listed c.self.view_is c.self.invariant c.args.channel c.requires
