use Rattle.kahn_crew.proofs.Common.{◌≡◌, ◌++◌, map, vec_capacity, woken_task}
use Rattle.kahn_crew.proofs.opening.wake_all.Given as goal

abbrev pub invariant-loop-idle : goal.invariant-loop-idle
invariant-loop-idle l =
    (goal.iterator-loop-idle).can_next l.idle-iterator
    × (goal.iterator-loop-idle).is_finite l.idle-iterator
    × (l.fn.idles.items ≡ l.yielded ++ l.idle-iterator.rest.items)
    × (l.tasks.items ≡ map (woken_task l.input) l.yielded)
    × (vec_capacity l.tasks ≡ vec_capacity l.fn.tasks)
