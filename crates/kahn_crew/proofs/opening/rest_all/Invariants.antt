use Rattle.kahn_crew.proofs.Common.{◌≡◌, All, map, IsJob, work_of}
use Rattle.std.proofs.Common.{vec_capacity}
use Rattle.kahn_crew.proofs.opening.rest_all.Given as goal

abbrev pub invariant-loop-task : goal.invariant-loop-task
invariant-loop-task l =
    (goal.iterator-loop-task).can_next l.task-iterator ×
    (goal.iterator-loop-task).is_finite l.task-iterator ×
    (l.idles.items ≡ map work_of l.yielded) ×
    All IsJob l.idles.items ×
    (vec_capacity l.idles ≡ vec_capacity l.fn.idles)
