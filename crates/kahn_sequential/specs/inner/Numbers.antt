-- Inner. The numbers of the streams that each instance writes.
use Rattle.std.specs.Prelude.{◌≡◌, ℕ, ◌<◌, ◌≤◌, List, length, Option, None, Some, slice_get}
use Rattle.kahn_sequential.specs.{declared.taps.NumberRange.NumberRange, inner.Below.Line, inner.Below.Schema, inner.Below.Written, inner.Below.source}

abbrev pub is_in : List ℕ → ℕ → Type 0
is_in xs j = (k : ℕ) × (slice_get xs k ≡ Some j)

-- this number is between the first and the last one of an instance
abbrev pub IsNumberOf : List NumberRange → ℕ → ℕ → Type 0
IsNumberOf spans p j = (s : NumberRange) × (slice_get spans p ≡ Some s) × (s.first ≤ j) × (j ≤ s.last)

-- this instance writes the stream of the line, or none
abbrev pub IsLineWriter : Schema → Line → Option ℕ → Type 0
IsLineWriter N c None = (p : ℕ) → source N c ≡ Written p → ⊥
IsLineWriter N c (Some p) = (source N c ≡ Written p) × (p < length N.instances)

-- this is one of the instance that writes the line, and the others stay
abbrev pub HasNumber : Schema → Line → ℕ → List NumberRange → List NumberRange → Type 0
HasNumber N c number old new =
    ((p j : ℕ) → IsNumberOf old p j → IsNumberOf new p j) × ((p : ℕ) → source N c ≡ Written p → IsNumberOf new p number)

-- so it is of the first n lines, and of all
abbrev pub HoldNumbersTo : ℕ → Schema → List Line → List NumberRange → Type 0
HoldNumbersTo n N lines spans = (p j : ℕ) (c : Line) → j < n → slice_get lines j ≡ Some c → source N c ≡ Written p → IsNumberOf spans p j

abbrev pub HoldNumbers : Schema → List Line → List NumberRange → Type 0
HoldNumbers N lines spans = (p j : ℕ) (c : Line) → slice_get lines j ≡ Some c → source N c ≡ Written p → IsNumberOf spans p j

-- none of these numbers from one on is less, nor is it more than that most, nor less than the first if that isn't
abbrev pub IsLeast : (ℕ → Type 0) → ℕ → ℕ → ℕ → Type 0
IsLeast P from most n = (n ≤ most) × (from ≤ most → from ≤ n) × ((j : ℕ) → P j → from ≤ j → n ≤ j)
