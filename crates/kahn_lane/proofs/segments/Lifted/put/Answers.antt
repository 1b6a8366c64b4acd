use Rattle.kahn_lane.proofs.Common.{ap, subst, sym, ◌∙◌, token_name, IsGrown, LaneName}
use Rattle.kahn_lane.proofs.segments.Lifted.put.Goals as goal

pub lift-requires : goal.lift-requires
lift-requires g c =
    subst (λ (n : LaneName). IsGrown n c.args.input.now) (sym c.requires.next.0 ∙ ap token_name (sym c.token-token.ensures)) c.requires.input.1
