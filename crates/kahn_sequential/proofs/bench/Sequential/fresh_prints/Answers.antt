use Rattle.kahn_sequential.proofs.Emptied.{fresh_printed}
use Rattle.kahn_sequential.proofs.bench.Sequential.fresh_prints.Goals as goal

pub returns : goal.returns
returns c = fresh_printed c.self.inside.taps.items c.self.view_is c.self.invariant c.args.instance c.requires c.index.ensures _ c.fresh_prints.ensures
