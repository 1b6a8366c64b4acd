use Rattle.kahn_session.proofs.Common.{◌≡◌, ◌+◌, sym, subst, Pace, part_bound}
use Rattle.kahn_session.proofs.{Showing.kept_lines, Steps.after_part}
use Rattle.kahn_session.proofs.pace.Paced.part.Goals as goal

pub invariant_of-self : goal.invariant_of-self
invariant_of-self g c =
    let i = c.self.inside in
    let more = c.more-more.result in
    let part = subst (λ (p : Pace). p.flow.run.bound + more ≡ part_bound p.step p.flow.run) (sym c.self.view_is) c.more-more.ensures in
    let resumed = c.in-Ok.ensures.0.0 in
    let (is, most, few) = after_part i.flow.run c.resume.new.self.run i.step i.allowed more c.self.invariant.1 part resumed in
    (kept_lines i.flow.run c.resume.new.self.run i.lines.items c.self.invariant.0 resumed.goes_on, is, most, few)
