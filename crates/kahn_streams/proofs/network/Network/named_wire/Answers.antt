use Rattle.kahn_streams.proofs.Common.{sym, subst, string_bytes}
use Rattle.kahn_streams.specs.inner.Sources.{IsWire}
use Rattle.kahn_streams.proofs.Kept_network.{wire_at}
use Rattle.kahn_streams.proofs.network.Network.named_wire.Goals as goal

pub returns : goal.returns
returns c =
    let name = c.in-Some.name.now in
    let w = c.in-Some.wire.now in
    let here = wire_at c.self.inside.program c.self.inside.wires.entries c.self.invariant.wired c.self.invariant.lines c.args.channel (name, w) (sym c.in-Some.ensures.entry) in
    subst (λ z. IsWire z c.args.channel (string_bytes name) w) c.self.view_is here
