use Rattle.kahn_job.proofs.Common.{◌≡◌, length, take, network_of, instance_at}
use Rattle.kahn_job.proofs.task.Task.woken.Given as goal

abbrev pub invariant-loop-parameter : goal.invariant-loop-parameter
invariant-loop-parameter l =
    (take l.parameter l.published.items ≡ take l.parameter l.cell.sent)
    × (length l.published.items ≡ length (instance_at (network_of l.cell.network) l.cell.instance).actuals)
