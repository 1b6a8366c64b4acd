use Rattle.std.proofs.Common.{ap}
use Rattle.kahn_needs.specs.declared.search.Demand.{Demand}
use Rattle.kahn_needs.proofs.Searching.{meets_ring, ring_never}
use Rattle.kahn_needs.proofs.search.is_ring.Goals as goal

pub returns-clause-every : goal.returns-clause-every
returns-clause-every c = c.is_same.ensures.1

pub returns-clause-found : goal.returns-clause-found
returns-clause-found c same =
    let b = c.args.bench.now in
    let x = c.args.chain in
    let d = c.args.demand in
    let r = c.requires in
    let e = c.is_same.ensures.0 same in
    let never = ring_never b c.args.root.line c.args.root.place x.mark.line x.mark.place x.demand.line x.demand.place d.line d.place r.chain.marked r.chain.later r.awaited.1
    (ap (λ (z : Demand). z.line) e) (ap (λ (z : Demand). z.place) e) in
    (never, meets_ring b c.args.root.line c.args.root.place x d r.chain r.awaited.2 e)
