-- Believed. Notes on the texts as data.
use Rattle.std.specs.Prelude.{◌≡◌, ◌⊎◌, ℕ, List, [], Option, Result, Ok, Err}
use Rattle.std.specs.Io.KnownBytes.{Appends}
use Rattle.kahn_streams.specs.Written.{AppendsFront}
use Rattle.kahn_fault.specs.declared.work.WorkFault.{WorkFault}
use Rattle.kahn_explanation.specs.declared.explaining.Came.{Came, TheVariants.Refused}

-- the notes went out, and looking at the texts came to that; some are there where a text was refused; or nothing went out, or a front of them
abbrev pub HasToldData : Result Came WorkFault → Option (List ℕ) → Option (List ℕ) → Result Came WorkFault → Type 0
HasToldData looked old new (Ok came) = (looked ≡ Ok came) × ((text : List ℕ) × Appends old new text × (came ≡ Refused → ¬ (text ≡ [])))
HasToldData looked old new (Err f) = (new ≡ old) ⊎ ((text : List ℕ) × AppendsFront old new text)
