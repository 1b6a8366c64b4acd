use Rattle.std.proofs.Common.{sym, ◌∙◌}
use Rattle.kahn_sequential.proofs.Tapping as Tapping
use Rattle.kahn_sequential.proofs.bench.Sequential.events.Goals as goal

pub returns : goal.returns
returns c = c.events.ensures ∙ sym (Tapping.events_here c.self.inside.taps.items c.self.view_is c.self.invariant c.args.instance c.requires c.index.ensures)
