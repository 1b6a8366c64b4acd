use Rattle.kahn_crew.proofs.Common.{◌≡◌, ◌≤◌, ◌<◌, ℕ, length, slice_index, vec_capacity, network_of, IsNumber}
use Rattle.kahn_crew.proofs.opening.open_board.Given as goal

abbrev pub invariant-loop-channel : goal.invariant-loop-channel
invariant-loop-channel l =
    (length l.numbers.items ≡ l.channel)
    × ((c : ℕ) → c < length l.numbers.items → IsNumber l.network l.input l.tasks.items c (slice_index l.numbers.items c))
    × (length (network_of l.network).channels ≤ vec_capacity l.numbers)
