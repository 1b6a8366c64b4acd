-- None of the bytes so far is a semicolon, and one is left.
use Rattle.std.proofs.Common.{◌≡◌, ℕ, ◌≤◌, ◌<◌, ◌-◌, length, get_or}
use Rattle.kahn_expected.proofs.comments.comment_end.Given as goal

abbrev pub invariant-bytes : goal.invariant-bytes
invariant-bytes l =
    (l.from ≤ l.at) × ((e : ℕ) × (l.at ≤ e) × (e < length l.text) × (get_or l.text e 0 ≡ 59))
    × ((i : ℕ) → l.from ≤ i → i < l.at → ¬ (get_or l.text i 0 ≡ 59))

abbrev pub decreases-bytes : goal.decreases-bytes
decreases-bytes l = length l.text - l.at
