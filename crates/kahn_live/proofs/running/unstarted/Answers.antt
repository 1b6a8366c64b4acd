use Rattle.kahn_live.proofs.Common.{refl, sym}
use Rattle.kahn_live.proofs.running.unstarted.Goals as goal

pub returns-in_default : goal.returns-in_default
returns-in_default g c = rw (sym c.in_default.ensures) (refl, refl)

pub returns : goal.returns
returns g c = rw (sym c.in-Some.ensures) (refl, (c.as_str.result.now, rw c.as_bytes-names.ensures.value at c.say.ensures))
