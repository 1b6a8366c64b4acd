use Rattle.kahn_sequential.proofs.Common.{◌≤◌, arith, inl, inr, length, rules, network_of}
use Rattle.kahn_sequential.proofs.Recording.{others_more}
use Rattle.kahn_sequential.proofs.counted.quantum_for.Goals as goal

pub loop-channel-preserved : goal.loop-channel-preserved
loop-channel-preserved c =
    others_more (network_of c.args.network.now) c.loop-channel.channel c.loop-channel.invariant (c.is_own.ensures c.if-is_own.false)

pub returns-then-is_own-clause-turns : goal.returns-then-is_own-clause-turns
returns-then-is_own-clause-turns c = inl (omega arith)

pub returns-clause-turns : goal.returns-clause-turns
returns-clause-turns c = inr (λ d l.
    let past : length (network_of c.args.network.now).channels ≤ c.loop-channel.channel = search rules in
    c.loop-channel.invariant d (omega (arith, l, past)))
