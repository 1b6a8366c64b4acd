use Rattle.kahn_sequential.proofs.Common.{arith, sight_of}
use Rattle.kahn_sequential.proofs.Turns.{took_turn, turn_bound, turn_most}
use Rattle.kahn_sequential.proofs.rounds.Driver.take_turn.Goals as goal

pub run_turn-stopped-requires-clause-bound : goal.run_turn-stopped-requires-clause-bound
run_turn-stopped-requires-clause-bound g c = rw c.turn-quantum.ensures (turn_bound (sight_of c.args.bench.now) c.args.round.now c.args.instance c.requires.may)

pub mark_turn-requires-clause-up : goal.mark_turn-requires-clause-up
mark_turn-requires-clause-up g c = let up = c.run_turn-stopped.ensures.ran.events.0 in omega (arith, c.events-before.ensures, up)

pub mark_turn-requires-clause-few : goal.mark_turn-requires-clause-few
mark_turn-requires-clause-few g c =
    let most = turn_most c.args.round.now in
    let few = c.run_turn-stopped.ensures.ran.events.1 in
    omega (arith, c.events-before.ensures, few, c.turn-quantum.ensures, most)

pub returns : goal.returns
returns g c =
    let h = c.run_turn-stopped.ensures in
    rw c.mark_turn.ensures.bench (took_turn c.turn-quantum.ensures c.events-before.ensures h.ran h.worked c.mark_turn.ensures.marked)
