use Rattle.kahn_job.proofs.Common.{◌≡◌, ◌≤◌, length, map, take, vec_capacity}
use Rattle.kahn_job.proofs.task.Idle.lists.Given as goal

abbrev pub invariant-loop-parameter : goal.invariant-loop-parameter
invariant-loop-parameter l =
    (map (λ v. v.items) l.kept.items ≡ take l.parameter l.self.cell.kept) × (length l.kept.items ≡ l.parameter) × (l.parameters ≤ vec_capacity l.kept)
