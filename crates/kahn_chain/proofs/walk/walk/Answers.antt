use Rattle.kahn_chain.proofs.Common.{arith, ◌≡◌, ◌∙◌, sym, subst, rules, length-map, map, network_of, stands}
use Rattle.kahn_chain.proofs.Walking.{Walks, begins, walks_on, walks_out, walks_round}
use Rattle.kahn_chain.proofs.walk.walk.Goals as goal

pub loop-init : goal.loop-init
loop-init c =
    let n = length-map c.args.ends.now stands in
    let here = c.requires.here in
    begins (network_of c.args.network.now) (map stands c.args.ends.now) c.args.first c.args.sought _ (omega (arith, here, n)) (search rules)

pub loop-preserved : goal.loop-preserved
loop-preserved c =
    let n = length-map c.args.ends.now stands in
    let next = c.in-On.ensures in
    let least = c.min-least.ensures in
    let found = c.is_found-found.ensures in
    let on = walks_on (network_of c.args.network.now) (map stands c.args.ends.now) c.args.first c.args.sought c.loop.at c.loop.least c.loop.counter c.loop.found c.loop.invariant next.1.0 c.in-On.instance next.0 next.1.1 in
    rw (least, found) on

pub returns-in-Stop : goal.returns-in-Stop
returns-in-Stop c =
    walks_out (network_of c.args.network.now) (map stands c.args.ends.now) c.args.first c.args.sought c.loop.at c.loop.least c.loop.counter c.loop.found c.loop.invariant c.in-Stop.stop c.in-Stop.ensures

pub returns : goal.returns
returns c =
    let n = length-map c.args.ends.now stands in
    let past = c.loop-test.false in
    walks_round (network_of c.args.network.now) (map stands c.args.ends.now) c.args.first c.args.sought c.loop.at c.loop.least c.loop.counter c.loop.found c.loop.invariant (omega (arith, past, n))
