use Rattle.kahn_pool.proofs.Common.{◌≡◌, vec_capacity, cells_of, AreKeptOf}
use Rattle.kahn_pool.proofs.running.all_kept.Given as goal

abbrev pub invariant-loop-idle : goal.invariant-loop-idle
invariant-loop-idle l =
    (goal.iterator-loop-idle).can_next l.idle-iterator ×
    (goal.iterator-loop-idle).is_finite l.idle-iterator ×
    AreKeptOf (cells_of l.yielded) l.kept.items ×
    (vec_capacity l.kept ≡ vec_capacity l.fn.kept)
