use Rattle.kahn_streams.proofs.Common.{sym, ap, ◌∙◌, Token}
use Rattle.kahn_streams.proofs.queued.Queued.token.Goals as goal

pub token_of-requires : goal.token_of-requires
token_of-requires c =
    let x = c.args.self.now in
    let same = ap (λ (t : Token). t.value) (sym c.self.view_is) ∙ c.self.invariant.0 in
    rw (← c.requires.0, ← c.requires.1, ← same) x.stands
