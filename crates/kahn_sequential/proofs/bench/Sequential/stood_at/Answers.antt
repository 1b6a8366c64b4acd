use Rattle.kahn_sequential.proofs.Tapping.{found, stood_here}
use Rattle.kahn_sequential.proofs.bench.Sequential.stood_at.Goals as goal

pub stood-requires : goal.stood-requires
stood-requires c =
    (c.self.invariant.each c.args.instance _ (found c.self.inside.taps.items c.self.view_is c.self.invariant c.args.instance c.requires c.index.ensures)).network

pub returns-clause-stood : goal.returns-clause-stood
returns-clause-stood c = stood_here c.self.inside.taps.items c.self.view_is c.self.invariant c.args.instance c.requires c.index.ensures c.stood.ensures
