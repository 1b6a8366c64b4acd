use Rattle.kahn_live.proofs.Common.{◌∙◌, ap, inl, inr, refl, Err, Keeps-refl, map, err_from_is_err_and, Live, Point, bytes_in, point_of}
use Rattle.kahn_live.proofs.Meeting.{at_least, row_met}
use Rattle.kahn_live.proofs.taking.LiveStage.take_cells.Goals as goal

pub returns-in_err-feed_cells-clause-met : goal.returns-in_err-feed_cells-clause-met
returns-in_err-feed_cells-clause-met g c =
    let p = err_from_is_err_and c.from_residual.result c.from_residual.ensures.1 in
    rw (p.1, p.2) (inr c.in_err-feed_cells.ensures.fed)

pub returns-in-Ok-clause-met : goal.returns-in-Ok-clause-met
returns-in-Ok-clause-met g c =
    let (fed, out, told) = c.in_ok-feed_cells.ensures.fed in
    let old = point_of g.W.Write.contents g.E.Write.contents c.args.self.now in
    let mid = point_of g.W.Write.contents g.E.Write.contents c.feed_cells.new.self in
    let run : Point = record { session = c.run.new.self; out = g.W.Write.contents c.run.new.writer.writer; told = mid.told } in
    let new = point_of g.W.Write.contents g.E.Write.contents c.tell_part.new.self in
    row_met c.args.number c.args.names.now (map bytes_in c.args.cells.now) c.in-Ok.verdict old mid run new c.tell_part.result fed out told c.in-Ok.ensures.shown
    (rw c.as_bytes.ensures.value at c.tell_part.ensures.told)

pub returns-in-Ok-clause-broken : goal.returns-in-Ok-clause-broken
returns-in-Ok-clause-broken g c = at_least c.tell_part.result (ap (λ (s : Live). s.broken) c.tell_part.ensures.session ∙ c.in-Ok.ensures.broken)

pub returns-in-Err-clause-met : goal.returns-in-Err-clause-met
returns-in-Err-clause-met g c =
    let (fed, out, told) = c.in_ok-feed_cells.ensures.fed in
    let made = g.W.Write.contents c.run.new.writer.writer in
    inl ((c.in-Err.fault, refl), told, (c.feed_cells.new.self.session, made, Err c.in-Err.fault, fed, rw out at c.in-Err.ensures.shown, Keeps-refl made))
