use Rattle.kahn_syntax.proofs.Common.{◌≤◌, ◌<◌, ◌-◌, ℕ, length, get_or}
use Rattle.kahn_syntax.specs.inner.Items.{IsFormByte}
use Rattle.kahn_syntax.proofs.lexer.bytes_end.Given as goal

abbrev pub invariant-bytes : goal.invariant-bytes
invariant-bytes l = (l.from ≤ l.at) × (l.at ≤ length l.text) × ((i : ℕ) → l.from ≤ i → i < l.at → IsFormByte l.word (get_or l.text i 0))

abbrev pub decreases-bytes : goal.decreases-bytes
decreases-bytes l = length l.text - l.at
