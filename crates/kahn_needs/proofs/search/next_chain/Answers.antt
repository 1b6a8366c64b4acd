use Rattle.kahn_needs.proofs.Common.{subst}
use Rattle.kahn_needs.specs.inner.Finding.{IsTurnTold}
use Rattle.kahn_needs.proofs.Searching.{lacks_one}
use Rattle.kahn_needs.proofs.search.next_chain.Goals as goal

pub returns-in-Over-clause-chain : goal.returns-in-Over-clause-chain
returns-in-Over-clause-chain c =
    let b = c.args.bench.now in
    let r = c.args.root in
    let d = c.args.chain.demand in
    lacks_one b r.line r.place d.line d.place c.requires.chain.demanded (subst (IsTurnTold b r.line r.place d.line d.place) c.in-Over.is c.requires.told)
