use Rattle.std.proofs.Common.{arith, refl, ◌∙◌}
use Rattle.kahn_needs.proofs.Searching.{chain_on, demand_on, demands_on, ended_so, none_wait}
use Rattle.kahn_needs.proofs.search.search.Goals as goal

pub loop-init : goal.loop-init
loop-init g c = record { same = (refl, refl, refl); forced = c.requires.forced; root = c.requires.root; chain = c.begun-chain.ensures; waiting = none_wait c.args.bench.now c.args.root.line c.args.root.place c.new-waiting.result.items c.new-waiting.ensures.items; left = omega arith; counted = refl }

pub loop-preserved : goal.loop-preserved
loop-preserved g c =
    let i = c.loop.invariant in
    let a = c.act-turn.ensures in
    record {
      same = (a.same.0 ∙ i.same.0, a.same.1 ∙ i.same.1, a.same.2 ∙ i.same.2);
      forced = a.forced;
      root = demand_on c.loop.bench c.act-turn.new.bench a.same c.args.root.line c.args.root.place c.args.root.line c.args.root.place i.root;
      chain = c.in-Ok.ensures.chain;
      waiting = c.in-Ok.ensures.waiting;
      left = omega (arith, c.left_after.ensures, i.left);
      counted = omega (arith, c.left_after.ensures, a.counted, i.counted);
    }

pub next_chain-requires-clause-waiting : goal.next_chain-requires-clause-waiting
next_chain-requires-clause-waiting g c =
    demands_on c.loop.bench c.act-turn.new.bench c.act-turn.ensures.same c.args.root.line c.args.root.place c.loop.waiting.items c.loop.invariant.waiting

pub next_chain-requires-clause-chain : goal.next_chain-requires-clause-chain
next_chain-requires-clause-chain g c =
    chain_on c.loop.bench c.act-turn.new.bench c.act-turn.ensures.same c.args.root.line c.args.root.place c.loop.chain c.loop.invariant.chain

pub returns-in-Err-clause-counted : goal.returns-in-Err-clause-counted
returns-in-Err-clause-counted g c = omega (arith, c.left_after.ensures, c.act-turn.ensures.counted, c.loop.invariant.counted)

pub returns-in-Err-clause-left : goal.returns-in-Err-clause-left
returns-in-Err-clause-left g c = omega (arith, c.left_after.ensures, c.loop.invariant.left)

pub returns-in-Err-clause-sought : goal.returns-in-Err-clause-sought
returns-in-Err-clause-sought g c = ended_so c.act-turn.new.bench c.args.root.line c.args.root.place _ c.in-Err.end c.in-Err.ensures.chain
