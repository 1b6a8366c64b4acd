use Rattle.kahn_live.proofs.Common.{arith, ◌≡◌, ◌+◌, ◌∷◌, inl, inr, drop, common_steps, err_from_is_err_and, at_end_number, point_of}
use Rattle.kahn_live.proofs.Meeting.{answered_of}
use Rattle.kahn_live.proofs.taking.LiveStage.take_last.Goals as goal

pub returns-in_err-take_line-clause-met : goal.returns-in_err-take_line-clause-met
returns-in_err-take_line-clause-met g c =
    let i = c.loop-line.line-index in
    let split : drop i c.args.lines.now ≡ c.line-item.result ∷ drop (i + 1) c.args.lines.now = grind (arith, common_steps) in
    let new = point_of g.W.Write.contents g.E.Write.contents c.take_line.new.self in
    let broken = rw c.as_bytes.ensures.value at c.in_err-take_line.ensures.met in
    let p = err_from_is_err_and c.from_residual.result c.from_residual.ensures.1 in
    rw (p.1, p.2) (c.loop-line.invariant.2 new c.in_err-take_line.field-0.0 (rw split (inl broken)))

pub loop-line-preserved : goal.loop-line-preserved
loop-line-preserved g c =
    let i = c.loop-line.line-index in
    let split : drop i c.args.lines.now ≡ c.line-item.result ∷ drop (i + 1) c.args.lines.now = grind (arith, common_steps) in
    let old = point_of g.W.Write.contents g.E.Write.contents c.loop-line.self in
    let new = point_of g.W.Write.contents g.E.Write.contents c.take_line.new.self in
    let met = rw c.as_bytes.ensures.value at (answered_of at_end_number c.as_bytes.result.now old new c.in_ok-take_line.field-0 c.in_ok-take_line.ensures.met) in (
      c.in_ok-take_line.ensures.broken,
      λ p fed. c.loop-line.invariant.1 p (rw split (new, met, fed)),
      λ p fault off. c.loop-line.invariant.2 p fault (rw split (inr (new, met, off))),
    )
