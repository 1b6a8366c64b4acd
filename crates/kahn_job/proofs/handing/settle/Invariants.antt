use Rattle.kahn_job.proofs.Common.{◌≡◌, cells_of, rows_of}
use Rattle.kahn_job.proofs.Settles.{AreGoing}
use Rattle.kahn_job.proofs.handing.settle.Given as goal

abbrev pub invariant-loop-channel : goal.invariant-loop-channel
invariant-loop-channel l = AreGoing l.network l.input l.channel (rows_of l.fn.idles.items) (rows_of l.idles.items) × (cells_of l.idles.items ≡ cells_of l.fn.idles.items)
