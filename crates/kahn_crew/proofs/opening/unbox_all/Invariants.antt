use Rattle.kahn_crew.proofs.Common.{◌≡◌, ◌≤◌, ◌+◌, ◌++◌, length, reverse, vec_capacity}
use Rattle.kahn_crew.proofs.opening.unbox_all.Given as goal

abbrev pub invariant-loop-boxed : goal.invariant-loop-boxed
invariant-loop-boxed l =
    (l.boxes.items ++ reverse l.tasks.items ≡ l.fn.boxes.items ++ reverse l.fn.tasks.items)
    × (length l.boxes.items + length l.tasks.items ≤ vec_capacity l.tasks)

abbrev pub decreases-loop-boxed : goal.decreases-loop-boxed
decreases-loop-boxed l = length l.boxes.items
