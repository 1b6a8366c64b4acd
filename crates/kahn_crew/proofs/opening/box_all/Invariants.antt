use Rattle.kahn_crew.proofs.Common.{◌≡◌, ◌≤◌, ◌+◌, ◌++◌, length, reverse, vec_capacity}
use Rattle.kahn_crew.proofs.opening.box_all.Given as goal

abbrev pub invariant-loop-task : goal.invariant-loop-task
invariant-loop-task l =
    (l.boxes.items ++ reverse l.tasks.items ≡ l.fn.tasks.items)
    × (length l.boxes.items + length l.tasks.items ≤ vec_capacity l.boxes)
    × (length l.boxes.items + length l.tasks.items ≤ vec_capacity l.tasks)

abbrev pub decreases-loop-task : goal.decreases-loop-task
decreases-loop-task l = length l.tasks.items
