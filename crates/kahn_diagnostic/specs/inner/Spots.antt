-- Inner. Places of a text that were counted.
use Rattle.std.specs.Prelude.{◌≡◌, ◌≤◌, ℕ, List, length}
use Rattle.kahn_streams.specs.Place.{line_of, column_of}
use Rattle.kahn_diagnostic.specs.declared.lines.Spot.{Spot}

-- a byte of the text, or its end, with its line and its column
abbrev pub IsSpotOf : List ℕ → Spot → Type 0
IsSpotOf text s = (s.at ≤ length text) × (s.line ≡ line_of text s.at) × (s.column ≡ column_of text s.at)
