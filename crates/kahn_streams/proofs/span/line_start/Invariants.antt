use Rattle.std.proofs.Common.{◌≡◌, ℕ, ◌≤◌, ◌<◌, length, get_or}
use Rattle.kahn_streams.proofs.span.line_start.Given as goal

abbrev pub invariant-bytes : goal.invariant-bytes
invariant-bytes l = record { inside : l.at ≤ length l.text; passed : (i : ℕ) → l.at ≤ i → i < length l.text → ¬ (get_or l.text i 0 ≡ 10) }

abbrev pub decreases-bytes : goal.decreases-bytes
decreases-bytes l = l.at
