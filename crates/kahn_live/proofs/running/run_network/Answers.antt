use Rattle.kahn_live.proofs.Common.{inl, inr, refl, point_of}
use Rattle.kahn_live.proofs.running.run_network.Goals as goal

pub returns-in-Err : goal.returns-in-Err
returns-in-Err g c = inl (c.in-Err.fault, c.in-Err.ensures, c.unstarted-ending.ensures, refl)

pub returns : goal.returns
returns g c =
    let served = rw (c.input_named-named.ensures, c.as_slice-at_end.ensures.value) at c.work-ending.ensures in
    let last = point_of g.W.Write.contents g.E.Write.contents c.work-ending.new.stage in
    inr (c.in-Ok.session, c.in-Ok.ensures, (last, c.work-ending.result, served, c.sent-ending.ensures.sent, c.sent-ending.ensures.kept, refl))
