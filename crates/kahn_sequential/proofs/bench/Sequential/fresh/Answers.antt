use Rattle.std.proofs.Common.{sym, ◌∙◌}
use Rattle.kahn_sequential.proofs.Emptied.{fresh_kept, fresh_within}
use Rattle.kahn_sequential.proofs.bench.Sequential.fresh.Goals as goal

pub fresh-requires : goal.fresh-requires
fresh-requires c =
    let few = fresh_within c.self.inside.taps.items c.self.view_is c.self.invariant c.args.instance c.requires.here c.index-tap.ensures c.args.parameter c.requires.parameter in
    rw (sym c.parameters-count.ensures.number ∙ c.parameters-count.ensures.lists.2) at few

pub returns : goal.returns
returns c = fresh_kept c.self.inside.taps.items c.self.view_is c.self.invariant c.args.instance c.requires.here c.index-tap.ensures c.args.parameter _ c.fresh.ensures
