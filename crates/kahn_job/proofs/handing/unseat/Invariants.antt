use Rattle.std.proofs.Common.{vec_capacity}
use Rattle.kahn_job.proofs.Common.{◌≡◌, length, map, replicate, Tapped, cells_of, nothing_gone, tolds_of}
use Rattle.kahn_job.proofs.handing.unseat.Given as goal

abbrev pub invariant-loop-idle : goal.invariant-loop-idle
invariant-loop-idle l =
    (goal.iterator-loop-idle).can_next l.idle-iterator
    × (goal.iterator-loop-idle).is_finite l.idle-iterator
    × (tolds_of l.taps.items ≡ cells_of l.yielded)
    × (map (λ (x : Tapped). x.gone) l.taps.items ≡ replicate (length l.yielded) nothing_gone)
    × (vec_capacity l.taps ≡ vec_capacity l.fn.taps)
    × (length l.taps.items ≡ length l.yielded)
