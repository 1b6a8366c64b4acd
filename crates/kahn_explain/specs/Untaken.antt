-- Believed. What is told of a run that stopped: why, and where values are left that nobody took, of which channel most (this project's profile).
use Rattle.std.specs.Prelude.{◌≡◌, ℕ, ◌-◌, ◌≤◌, ◌<◌, Bool, true, false, List, [], ◌∷◌, Option, Some, None, slice_get, string_bytes, unwrap_or}
use Rattle.std.specs.List.{concat}
use Rattle.kahn_line.specs.Parts.{parted}
use Rattle.kahn_sequential.specs.declared.counted.Count.{Count}
use Rattle.kahn_streams.specs.{Answers.is_output, Network.network_of, Network.role_at, declared.answer.Answer.Answer, declared.tree.Program.Program, Written.line_feed}
use Rattle.kahn_explanation.specs.{Why.IsExplained, declared.why.told.Explanation.Explanation, declared.why.told.Finding.Finding}

-- ---- how many are left

-- of a channel that a process reads, unless it is an output
abbrev pub left_in : Option Count → Bool → ℕ
left_in None out = 0
left_in (Some n) true = 0
left_in (Some n) false = n.sent - n.taken

abbrev pub left_of : Program → List Count → ℕ → ℕ
left_of t ns c = left_in (slice_get ns c) (is_output (role_at (network_of t) c))

-- among the first n channels, one of which most are left, and how many, if of one some are
abbrev pub IsFullest : Program → List Count → ℕ → ℕ × ℕ → Type 0
IsFullest t ns n x = (0 < x.1 → (x.0 < n) × (x.1 ≡ left_of t ns x.0)) × ((d : ℕ) → d < n → left_of t ns d ≤ x.1)

-- ---- behind the first line of the explanation

abbrev pub put_line : List ℕ → List ℕ × Option (List ℕ) → List ℕ
put_line line (first, rest) = concat (first ∷ line_feed ∷ line ∷ unwrap_or rest [] ∷ [])

-- what a run came to, and what is told of it: why it stopped, with a line behind the first (10 is the line feed)
abbrev pub IsToldFor : Program → Answer → Finding → List ℕ → Type 0
IsToldFor t a x text = (e : Explanation) × (line : List ℕ) × IsExplained t a e × (e.told ≡ x) × (text ≡ put_line line (parted 10 (string_bytes e.text)))
