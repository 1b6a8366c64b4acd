use Rattle.kahn_job.proofs.Common.{◌≡◌, cells_of, rows_of, IsAhead, ServesAt}
use Rattle.kahn_job.proofs.Handed.{AreHanded}
use Rattle.kahn_job.proofs.handing.jobs_at.Given as goal

abbrev pub invariant-loop-channel : goal.invariant-loop-channel
invariant-loop-channel l =
    AreHanded l.network (ServesAt l.network l.input l.queues.queues) IsAhead l.channel (rows_of l.idles.items)
    × (cells_of l.idles.items ≡ cells_of l.initial.idles.items)
