use Rattle.std.proofs.Common.{sym, ◌∙◌}
use Rattle.kahn_sequential.proofs.{Emptied.fresh_within, Tapping.sent_here}
use Rattle.kahn_sequential.proofs.bench.Sequential.sent_by.Goals as goal

pub sent-requires : goal.sent-requires
sent-requires c =
    let few = fresh_within c.self.inside.taps.items c.self.view_is c.self.invariant c.args.side.instance c.requires.0 c.index-tap.ensures c.args.side.parameter c.requires.1 in
    rw (sym c.parameters-count.ensures.number ∙ c.parameters-count.ensures.lists.1) at few

pub returns : goal.returns
returns c =
    c.sent.ensures ∙ sym (sent_here c.self.inside.taps.items c.self.view_is c.self.invariant c.args.side.instance c.requires.0 c.index-tap.ensures c.args.side.parameter)
