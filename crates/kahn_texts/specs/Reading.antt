-- Believed. What reading a text to its end says of the reader.
use Rattle.std.specs.Prelude.{◌≡◌, ℕ, ◌+◌, ◌≤◌, List, length, MatchResult, Option, Result, string_bytes}
use Rattle.std.specs.{declared.alloc.Global.Global, declared.string.String.String, Str.IsUtf8, Io.KnownBytes.Consumes, Io.KnownBytes.IsAtEnd}
use Rattle.kahn_texts.specs.{declared.read.ReadFault.ReadFault, declared.read.ReadFault.TheVariants.Failed, declared.read.ReadFault.TheVariants.TooLong, declared.read.ReadFault.TheVariants.NotUtf8, declared.read.ReadFault.TheVariants.NoMemory}

-- the bytes are all that the reader had, and are within the limit
abbrev pub GivesAll : Option (List ℕ) → Option (List ℕ) → ℕ → List ℕ → Type 0
GivesAll old new limit bytes = Consumes old new bytes × IsAtEnd new × (length bytes ≤ limit)

-- why a text wasn't read, by what came from the reader
abbrev pub IsReadFault : Option (List ℕ) → Option (List ℕ) → ℕ → ReadFault → Type 0
IsReadFault old new limit Failed = (bytes : List ℕ) × Consumes old new bytes × (length bytes ≤ limit)
IsReadFault old new limit TooLong = (bytes : List ℕ) × Consumes old new bytes × (length bytes ≡ limit + 1)
IsReadFault old new limit NotUtf8 = (bytes : List ℕ) × Consumes old new bytes × IsAtEnd new × (length bytes ≤ limit) × ¬ IsUtf8 bytes
IsReadFault old new limit NoMemory = (bytes : List ℕ) × Consumes old new bytes × (length bytes ≤ limit + 1)

-- the text that the reader gave, or why there is none
abbrev pub IsTextRead : Option (List ℕ) → Option (List ℕ) → ℕ → Result (String Global) ReadFault → Type 0
IsTextRead old new limit result = MatchResult result (λ text. GivesAll old new limit (string_bytes text)) (IsReadFault old new limit)
