use Rattle.kahn_job.proofs.Common.{◌≡◌, sym, ap, ◌∙◌, subst, Some, receiver_lane, LaneName, TaskEnd, end_of}
use Rattle.kahn_lane.specs.inner.Settles.{IsGrown}
use Rattle.kahn_job.proofs.port.TaskPort.settle.Goals as goal

pub settle-requires-clause-grown : goal.settle-requires-clause-grown
settle-requires-clause-grown c = subst (λ (x : TaskEnd). (n : LaneName) × (x.name ≡ Some n) × IsGrown n c.args.input.now) (sym c.self.view_is ∙ ap end_of c.in-Puts-Takes.is-0) c.requires.grown

pub returns-in-Ok-clause-lane : goal.returns-in-Ok-clause-lane
returns-in-Ok-clause-lane c =
    (receiver_lane c.in-Ok.receiver, ap (λ x. x.lane) c.puts.ensures ∙ ap Some c.in-Ok.ensures.lane, ap (λ x. x.lane) c.takes.ensures)
