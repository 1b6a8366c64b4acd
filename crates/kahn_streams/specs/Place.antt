-- Believed. Lines and columns of a text, both from 1. A line feed is the byte 10.
use Rattle.std.specs.Prelude.{ℕ, ◌+◌, List, take, not, ◌==◌, count_by}
use Rattle.std.specs.List.{suffix_len}

-- the line of byte i: the line feeds before it, and one
abbrev pub line_of : List ℕ → ℕ → ℕ
line_of text i = count_by (λ b. b == 10) (take i text) + 1

-- its column: the bytes before it, as far back as there is no line feed, and one
abbrev pub column_of : List ℕ → ℕ → ℕ
column_of text i = suffix_len (λ b. not (b == 10)) (take i text) + 1
