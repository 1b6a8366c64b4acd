use Rattle.kahn_board.proofs.Common.{◌≡◌, ◌<◌, ℕ, length, slice_index_or, None, vec_capacity, wires}
use Rattle.kahn_board.proofs.turn.reserved.Given as goal

abbrev pub invariant-loop-channel : goal.invariant-loop-channel
invariant-loop-channel g l = (length l.readers.items ≡ l.channel) × (vec_capacity l.readers ≡ vec_capacity l.initial.readers) × ((k : ℕ) → k < l.channel → slice_index_or l.readers.items k None ≡ (wires l.network).reader k)
