use Rattle.std.proofs.Common.{refl}
use Rattle.kahn_session.proofs.session.Session.start.Goals as goal

pub returns : goal.returns
returns c =
    let started = c.in_ok-paced.ensures in
    record { flow = rw c.in_ok-input.ensures at started.0; step = started.2; broken = refl; columns = c.new.ensures.items; waits = started.1; shown = refl }
