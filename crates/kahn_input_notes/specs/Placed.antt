-- Believed. The law that there is a note on each fault of an input text that has a place.
use Rattle.std.specs.Prelude.{ℕ, List, None}
use Rattle.kahn_streams.specs.declared.tree.Program.{Program}
use Rattle.kahn_texts.specs.{Formats.IsInputTextFault, declared.input.TextFault.TextFault, declared.input.TextFault.TheVariants.BadLine, declared.input.TextFault.TheVariants.BadValue, declared.input.TextFault.TheVariants.Input, declared.input.TextFault.TheVariants.TooLong, declared.input.TextFault.TheVariants.NoMemory}
use Rattle.kahn_input_notes.specs.Feeding.{IsInputNote}

-- all do but a text that is too long, and want of memory
abbrev pub HasItsPlace : TextFault → Type 0
HasItsPlace (BadLine n) = Unit {0}
HasItsPlace (BadValue n) = Unit {0}
HasItsPlace (Input fault) = Unit {0}
HasItsPlace TooLong = ⊥
HasItsPlace NoMemory = ⊥

-- a fault of this very text, for whatever programs
abbrev pub AlwaysPlaced : Type 0
AlwaysPlaced = (t u : Program) (text : List ℕ) (fault : TextFault) → IsInputTextFault u text fault → HasItsPlace fault → IsInputNote t text fault None → ⊥
