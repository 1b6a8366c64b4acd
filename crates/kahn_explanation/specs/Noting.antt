-- Believed. Notes in lines.
use Rattle.std.specs.Prelude.{◌≡◌, ℕ, All, List, [], ◌++◌, take}
use Rattle.kahn_streams.specs.{declared.tree.Program.Program, declared.fault.CheckFault.CheckFault}
use Rattle.kahn_diagnostic.specs.{Notes.IsRendered, Told.most_notes, declared.rendering.Note.Note}
use Rattle.kahn_program_notes.specs.Hints.{TellsOne}
use Rattle.kahn_warnings.specs.Telling.{AreWarningNotes}

-- a note stands in lines, as it is rendered
abbrev pub StandsIn : List ℕ → List ℕ → List ℕ → Note → Type 0
StandsIn path text lines n = (before : List ℕ) × (one : List ℕ) × (behind : List ℕ) × IsRendered path text n one × (lines ≡ before ++ (one ++ behind))

-- it came behind those that were there
abbrev pub HasShown : List ℕ → List ℕ → Note → List ℕ → List ℕ → Type 0
HasShown path text n old new = (more : List ℕ) × (new ≡ old ++ more) × StandsIn path text new n

-- the lines of notes of which each tells a fault, and which are none only where there is none
abbrev pub AreFaultLines : List ℕ → List ℕ → List CheckFault → List ℕ → Type 0
AreFaultLines path text fs lines = (notes : List Note) × All (TellsOne text fs) notes × (notes ≡ [] → fs ≡ []) × All (StandsIn path text lines) notes

-- those of the first notes on what is warned of in a program of this text; nothing where nothing is
abbrev pub AreWarningLines : List ℕ → List ℕ → Program → List ℕ → Type 0
AreWarningLines path text t lines = (notes : List Note) × AreWarningNotes text t notes × All (StandsIn path text lines) (take most_notes notes) × (notes ≡ [] → lines ≡ [])
