use Rattle.kahn_chain.proofs.Common.{map, network_of, stands}
use Rattle.kahn_chain.proofs.Walking.{least_of, no_ring_of}
use Rattle.kahn_chain.proofs.reason.cause_of.Goals as goal

pub returns-in-Ring : goal.returns-in-Ring
returns-in-Ring c =
    let stop = rw c.in-Ring.is at c.walk.ensures.stop in
    let here = least_of (network_of c.args.network.now) (map stands c.args.ends.now) c.args.instance c.in-Ring.one c.walk-ring.result stop.0 stop.1 c.walk-ring.ensures in
    record { cause = here.0; ring = here.1 }

pub returns-in_default : goal.returns-in_default
returns-in_default c =
    let here = no_ring_of (network_of c.args.network.now) (map stands c.args.ends.now) c.args.instance _ c.in_default.not-Ring c.walk.ensures.stop in
    record { cause = here.0; ring = here.1 }
