use Rattle.kahn_sequential.proofs.Emptied.{emptied_laid, emptied_then, spent_taps}
use Rattle.kahn_sequential.proofs.bench.Sequential.forget.Goals as goal

pub forget_turned-requires : goal.forget_turned-requires
forget_turned-requires c = spent_taps c.self.inside.taps.items c.self.view_is c.args.turned.now c.requires

pub invariant_of-self : goal.invariant_of-self
invariant_of-self c = emptied_laid c.self.inside.taps.items c.forget_turned.new.taps.items c.forget_turned.ensures c.self.invariant

pub returns : goal.returns
returns c = emptied_then c.self.inside.taps.items c.forget_turned.new.taps.items c.forget_turned.ensures c.self.invariant c.self.view_is
