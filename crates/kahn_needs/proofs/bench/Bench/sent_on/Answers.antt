use Rattle.kahn_needs.proofs.Common.{sym, subst, Channel, HasSentSoMany}
use Rattle.kahn_needs.proofs.Searching.{parameter_there, sent_there}
use Rattle.kahn_needs.proofs.bench.Bench.sent_on.Goals as goal

pub sent-requires : goal.sent-requires
sent-requires c = parameter_there c.self.view_is c.self.invariant c.args.channel c.in-Some.side c.in-Some.ensures.only.0 c.index-cell.ensures c.sized.ensures

pub returns-in-Some : goal.returns-in-Some
returns-in-Some c =
    subst (HasSentSoMany c.args.self.now (Channel c.args.channel)) (sym c.sent.ensures)
    (sent_there c.self.view_is c.self.invariant c.args.channel c.in-Some.side c.in-Some.ensures.only.0 c.index-cell.ensures c.in-Some.ensures.source)
