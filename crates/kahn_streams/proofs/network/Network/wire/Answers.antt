use Rattle.kahn_streams.proofs.Common.{subst, ℕ, List}
use Rattle.kahn_streams.specs.inner.Sources.{IsWire}
use Rattle.kahn_streams.proofs.Kept_network.{wire_valued}
use Rattle.kahn_streams.proofs.network.Network.wire.Goals as goal

pub returns : goal.returns
returns c =
    let w = c.index.result.now in
    let here = wire_valued c.self.inside.program c.self.inside.wires.entries c.self.invariant.wired c.self.invariant.lines c.args.channel w c.index.ensures in
    subst (λ z. (name : List ℕ) × IsWire z c.args.channel name w) c.self.view_is here
