use Rattle.kahn_fault.proofs.Common.{◌∙◌, ap, sym, status_of, with_refused}
use Rattle.kahn_fault.proofs.Refused.{stays}
use Rattle.kahn_fault.proofs.fault.live_status.Goals as goal

pub returns-in_default : goal.returns-in_default
returns-in_default c = stays c.args.refused c.status.result c.in_default.is-1.1 ∙ ap (with_refused c.args.refused) c.status.ensures

pub returns-in_default-2 : goal.returns-in_default-2
returns-in_default-2 c = c.status.ensures ∙ sym (ap (λ r. with_refused r (status_of c.args.answer.now)) c.in_default.is-0)
