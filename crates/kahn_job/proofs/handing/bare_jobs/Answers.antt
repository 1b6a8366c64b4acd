use Rattle.kahn_job.proofs.Common.{one_first, HasNoEnds}
use Rattle.kahn_job.proofs.handing.bare_jobs.Goals as goal

pub loop-instance-preserved : goal.loop-instance-preserved
loop-instance-preserved c =
    one_first (HasNoEnds c.args.network.now c.args.input.now c.args.watch) c.loop-instance.idles.items c.push.new.self.items c.in_ok-bare_job.field-0
    c.loop-instance.instance c.loop-instance.invariant c.in_ok-push.ensures.items (c.in_ok-bare_job.ensures.cell, c.in_ok-bare_job.ensures.ends)
