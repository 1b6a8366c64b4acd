use Rattle.kahn_needs.proofs.Common.{sym, subst, Channel, IsDemand, IsSooner, WaitsIn}
use Rattle.kahn_needs.proofs.search.awaited.Goals as goal

pub returns : goal.returns
returns c =
    let b = c.args.bench.now in
    let d = c.args.chain.demand in
    subst (λ n. IsDemand b c.args.root.line c.args.root.place (Channel c.args.channel) n × IsSooner b d.line d.place (Channel c.args.channel) n × WaitsIn b d.line d.place (Channel c.args.channel) n) (sym c.taken_from.ensures) c.requires

pub taken_from-requires : goal.taken_from-requires
taken_from-requires c = c.requires.0.listed
