use Rattle.kahn_sequential.proofs.Common.{◌≡◌, length, vec_capacity, HaveChanged, IsLeft}
use Rattle.kahn_sequential.proofs.taps.all_kept.Given as goal

abbrev pub invariant-loop-tap : goal.invariant-loop-tap
invariant-loop-tap l =
    (goal.iterator-loop-tap).can_next l.tap-iterator ×
    (goal.iterator-loop-tap).is_finite l.tap-iterator ×
    HaveChanged IsLeft l.yielded l.kept.items ×
    (vec_capacity l.kept ≡ vec_capacity l.fn.kept) ×
    (length l.kept.items ≡ length l.yielded)
