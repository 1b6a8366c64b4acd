use Rattle.kahn_board.proofs.Common.{◌≡◌, ℕ, ◌+◌, ◌*◌, ◌<◌, length, slice_index}
use Rattle.kahn_board.proofs.turn.lay_words.Given as goal

abbrev pub invariant-loop-c : goal.invariant-loop-c
invariant-loop-c l = (length l.words.items ≡ 8 * (l.instances + length l.published) + 24) × ((p : ℕ) → p < l.instances → slice_index l.words.items (8 * p) ≡ 0)
    × ((k : ℕ) → k < l.c → slice_index l.words.items (8 * (l.instances + k)) ≡ 2 * slice_index l.published k)
    × (slice_index l.words.items (8 * (l.instances + length l.published)) ≡ l.bound) × (slice_index l.words.items (8 * (l.instances + length l.published) + 8) ≡ l.instances) × (slice_index l.words.items (8 * (l.instances + length l.published) + 16) ≡ 0)
