use Rattle.kahn_live.proofs.Common.{Bool, subst, IsRinged}
use Rattle.kahn_live.proofs.telling.Teller.is_ring_new.Goals as goal

pub returns-then-not-is_deaf : goal.returns-then-not-is_deaf
returns-then-not-is_deaf g c = λ e. (c.if-self.false, subst (λ (b : Bool). IsRinged c.args.session.now.flow.run b) e c.has_ring.ensures)
