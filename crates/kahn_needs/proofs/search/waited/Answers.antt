use Rattle.kahn_needs.proofs.Searching.{one_waits}
use Rattle.kahn_needs.proofs.search.waited.Goals as goal

pub returns-in-Ok-clause-waiting : goal.returns-in-Ok-clause-waiting
returns-in-Ok-clause-waiting c =
    one_waits c.args.bench.now c.args.root.line c.args.root.place c.args.waiting.now.items c.push.new.self.items c.args.chain.demand c.in-Ok.ensures.items c.requires.waiting c.requires.chain.demanded

pub returns-then-is_ring-clause-chain : goal.returns-then-is_ring-clause-chain
returns-then-is_ring-clause-chain c = c.is_ring.ensures.found c.if-is_ring.true
