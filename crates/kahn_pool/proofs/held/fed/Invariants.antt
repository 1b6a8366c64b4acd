use Rattle.kahn_pool.proofs.Common.{ℕ, ◌<◌, IsWithinInput, end_at}
use Rattle.kahn_pool.proofs.held.fed.Given as goal

abbrev pub invariant-loop-parameter : goal.invariant-loop-parameter
invariant-loop-parameter l = (q : ℕ) → q < l.parameter → IsWithinInput (end_at l.task.work.ends q)
