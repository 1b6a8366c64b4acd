use Rattle.kahn_streams.proofs.Common.{sym, subst}
use Rattle.std.specs.Prelude.{MatchOption}
use Rattle.kahn_streams.specs.Inputs.{IsNameOf, IsNoName}
use Rattle.kahn_streams.proofs.Kept_names.{named_kept}
use Rattle.kahn_streams.proofs.network.Network.channel_named.Goals as goal

pub returns : goal.returns
returns c =
    let x = c.args.name.now in
    let here = subst (λ o. MatchOption o (IsNoName c.self.inside.program x) (IsNameOf c.self.inside.program x)) (sym c.get_index_of.ensures.index) (named_kept c.self.inside.program c.self.inside.wires.entries x c.self.invariant.lines) in
    subst (λ z. MatchOption c.get_index_of.result (IsNoName z x) (IsNameOf z x)) c.self.view_is here
