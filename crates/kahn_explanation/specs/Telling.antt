-- Believed. What telling why an input text is refused does.
use Rattle.std.specs.Prelude.{◌≡◌, ℕ, List, Option, Some, None, Result, Ok, Err, string_bytes}
use Rattle.std.specs.{declared.alloc.Global.Global, declared.string.String.String, Io.KnownBytes.Appends}
use Rattle.kahn_streams.specs.{declared.tree.Program.Program, declared.fault.RunFault.TheVariants.NoMemory, Written.AppendsFront}
use Rattle.kahn_fault.specs.{Work.IsChecked, Work.IsUnchecked, declared.work.WorkFault.WorkFault, declared.work.WorkFault.TheVariants.Text, declared.work.WorkFault.TheVariants.Run, declared.work.WorkFault.TheVariants.Write}
use Rattle.kahn_texts.specs.declared.input.TextFault.{TextFault}
use Rattle.kahn_input_notes.specs.Feeding.{IsInputNote}
use Rattle.kahn_diagnostic.specs.declared.rendering.Note.{Note}
use Rattle.kahn_explanation.specs.{Refusing.IsRenderedAs, declared.explaining.Came.Came, declared.explaining.Came.TheVariants.Stopped, declared.explaining.Came.TheVariants.Refused}

-- a note on a fault of an input text in lines, where there is one
abbrev pub AreInputLines : Program → List ℕ → List ℕ → TextFault → Option (String Global) → Type 0
AreInputLines t path text fault lines = (note : Option Note) × IsInputNote t text fault note × IsRenderedAs path text note lines

-- that of the fault, for the network of the program text
abbrev pub IsNoteFor : List ℕ → List ℕ → List ℕ → TextFault → Option (String Global) → Type 0
IsNoteFor path program text fault lines = (t : Program) × IsChecked program t × AreInputLines t path text fault lines

-- the note went out, or why not; the fault is answered where it has no place
abbrev pub HasToldInput : List ℕ → List ℕ → List ℕ → TextFault → Option (List ℕ) → Option (List ℕ) → Result Came WorkFault → Type 0
HasToldInput path program text fault old new (Ok (Stopped x)) = ⊥
HasToldInput path program text fault old new (Ok Refused) = (note : String Global) × IsNoteFor path program text fault (Some note) × Appends old new (string_bytes note)
HasToldInput path program text fault old new (Err (Text f)) = (f ≡ fault) × IsNoteFor path program text fault None × (new ≡ old)
HasToldInput path program text fault old new (Err (Run f)) = (f ≡ NoMemory) × (new ≡ old)
HasToldInput path program text fault old new (Err (Write f)) =
    (note : String Global) × IsNoteFor path program text fault (Some note) × AppendsFront old new (string_bytes note)
HasToldInput path program text fault old new (Err f) = IsUnchecked program f × (new ≡ old)
