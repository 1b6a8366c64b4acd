use Rattle.kahn_sequential.proofs.Common.{arith, network_of}
use Rattle.kahn_sequential.proofs.Numbered.{one_more}
use Rattle.kahn_sequential.proofs.taps.add_number.Goals as goal

pub returns-clause-numbered : goal.returns-clause-numbered
returns-clause-numbered c =
    one_more (network_of c.args.network.now) c.args.line c.args.number c.args.spans.now.items c.in-Some.instance c.index-span.result.now (record { first = c.min.result; last = c.max.result })
    (omega (arith, c.in-Some.ensures.1, c.requires.count)) c.index-span.ensures c.in-Some.ensures.0 c.min.ensures c.max.ensures
