use Rattle.kahn_job.proofs.Common.{ℕ, ◌<◌, HaveFlushed, IsFlushed, end_at}
use Rattle.kahn_job.proofs.handing.flush_all.Given as goal

abbrev pub invariant-loop-parameter : goal.invariant-loop-parameter
invariant-loop-parameter l = HaveFlushed l.initial.ports l.ports × ((r : ℕ) → r < l.parameter → IsFlushed (end_at l.ports r))
