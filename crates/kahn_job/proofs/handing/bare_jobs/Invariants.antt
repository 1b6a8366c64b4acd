use Rattle.kahn_job.proofs.Common.{AreFirst, HasNoEnds}
use Rattle.kahn_job.proofs.handing.bare_jobs.Given as goal

abbrev pub invariant-loop-instance : goal.invariant-loop-instance
invariant-loop-instance l = AreFirst (HasNoEnds l.network l.input l.watch) l.idles.items l.instance

abbrev pub ghost-bare_job : goal.ghost-bare_job
ghost-bare_job a = a._input.now
