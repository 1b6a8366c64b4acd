-- Believed. How many notes there are at most.
use Rattle.std.specs.Prelude.{ℕ}

-- the most notes of one sort
abbrev pub most_notes : ℕ
most_notes = 20
