use Rattle.kahn_live.proofs.Common.{Bool, Ok, inl, subst, sym}
use Rattle.kahn_live.specs.Running.{WasSent}
use Rattle.kahn_live.proofs.running.sent.Goals as goal

pub returns-clause-sent : goal.returns-clause-sent
returns-clause-sent g c = subst (λ (b : Bool). WasSent b c.args.ending (Ok c.in_ok-ending.ending)) (sym c.if-outlet.false) (inl (sym c.in_ok-ending.was))
