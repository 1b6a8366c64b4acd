-- Believed. The part of a line that isn't taken which is at fault, with whatever words.
use Rattle.std.specs.Prelude.{◌≡◌, ℕ, List, Option, None}
use Rattle.kahn_streams.specs.{declared.span.Span.Span, declared.tree.Kind.Kind, declared.tree.Program.Program}
use Rattle.kahn_input_notes.specs.{Feeding.IsKindFor, Fitting.IsUnfitSpan, Fitting.lack_place, Fitting.line_name, Fitting.part_of}

-- where a line goes wrong that doesn't begin with a name and a colon
abbrev pub IsHeadPart : List ℕ → List ℕ → List ℕ → Type 0
IsHeadPart line word words = word ≡ part_of line (lack_place line)

-- the first word behind a line's colon that is no value
abbrev pub IsValuePart : List ℕ → List ℕ → List ℕ → Type 0
IsValuePart line word words = (span : Span) × IsUnfitSpan None line span × (word ≡ part_of line span)

-- the first value of another kind than that of the line's channel
abbrev pub IsKindPart : Program → List ℕ → List ℕ → List ℕ → Type 0
IsKindPart t line word words = (kind : Option Kind) × (span : Span) × IsKindFor t (line_name line) kind × IsUnfitSpan kind line span × (word ≡ part_of line span)
