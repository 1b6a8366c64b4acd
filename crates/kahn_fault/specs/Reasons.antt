-- Believed. Why a file can't be read.
use Rattle.std.specs.Prelude.{ℕ, List, [], ◌∷◌, codes}
use Rattle.std.specs.List.{concat}

-- a line with a reason, after the name of the program that gives it
abbrev pub reason_line : List ℕ → List ℕ → List ℕ
reason_line name reason = concat (name ∷ codes ": " ∷ reason ∷ codes "\n" ∷ [])
