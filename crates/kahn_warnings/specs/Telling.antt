-- Believed. How warnings are told.
use Rattle.std.specs.Prelude.{◌≡◌, ℕ, List, map}
use Rattle.kahn_streams.specs.declared.{span.Span.Span, tree.Program.Program}
use Rattle.kahn_diagnostic.specs.declared.rendering.{Note.Note, Sort.Sort}
use Rattle.kahn_diagnostic.specs.declared.rendering.Sort.TheVariants as sort
use Rattle.kahn_warnings.specs.{Warnings.AreWarnings, declared.program.Warning.Warning}

-- what a note is, and where it stands; on a warning
abbrev pub note_place : Note → Sort × Span
note_place note = (note.sort, note.span)

abbrev pub warning_place : Warning → Sort × Span
warning_place w = (sort.Warning, w.span)

-- a note on each of the warnings, in order
abbrev pub AreNotesOf : List Warning → List Note → Type 0
AreNotesOf ws notes = map note_place notes ≡ map warning_place ws

-- the notes on what is warned of in a program of this text
abbrev pub AreWarningNotes : List ℕ → Program → List Note → Type 0
AreWarningNotes text t notes = (ws : List Warning) × AreWarnings text t ws × AreNotesOf ws notes
