-- Believed. What is told of the faults of a network.
use Rattle.std.specs.Prelude.{◌≡◌, ◌<◌, ◌&&◌, ℕ, All, Bool, true, List, [], Contains, IfSome, Option, Some, None, if◌then◌else◌, length, nat_le, slice_range}
use Rattle.std.specs.List.{list_all, list_any}
use Rattle.std.proofs.Common.{bytes_eq}
use Rattle.kahn_streams.specs.{declared.span.Span.Span, declared.tree.Program.Program, declared.fault.CheckFault.CheckFault}
use Rattle.kahn_check.specs.Parts.{faults_by_part}
use Rattle.kahn_syntax.specs.Texts.{IsProgram}
use Rattle.kahn_fault.specs.Message.{check_span, check_words}
use Rattle.kahn_diagnostic.specs.{Notes.IsApplied, declared.rendering.Fix.Fix, declared.rendering.Note.Note, declared.rendering.Sort.TheVariants.Error}

-- the letters at a place of a text; none where it isn't within the text
abbrev pub word_at : List ℕ → Span → List ℕ
word_at text at = if nat_le at.from at.to && nat_le at.to (length text) then slice_range text at.from at.to else []

-- those at a fault
abbrev pub word_if : List ℕ → Option Span → List ℕ
word_if text None = []
word_if text (Some at) = word_at text at

abbrev pub letters_at : List ℕ → CheckFault → List ℕ
letters_at text f = word_if text (check_span f)

-- a fault of a text is the same as one of another text, with the same letters
abbrev pub is_same_fault : List ℕ → CheckFault → List ℕ → CheckFault → Bool
is_same_fault text f other g = bytes_eq (check_words f) (check_words g) && bytes_eq (letters_at text f) (letters_at other g)

-- a fault of a changed text is one of those that were there, and all are
abbrev pub is_known : List ℕ → List CheckFault → List ℕ → CheckFault → Bool
is_known text fs other g = list_any (λ f. is_same_fault text f other g) fs

abbrev pub are_known : List ℕ → List CheckFault → List ℕ → List CheckFault → Bool
are_known text fs other gs = list_all (is_known text fs other) gs

-- these are the faults of a text, which is a program
abbrev pub AreFaultsOf : List ℕ → List CheckFault → Type 0
AreFaultsOf text fs = (tree : Program) × IsProgram text tree × (fs ≡ faults_by_part tree)

-- with a change the text is a program that has fewer faults than these, and none that isn't among these
abbrev pub LessensFaults : List ℕ → List CheckFault → Fix → Type 0
LessensFaults text fs fix = (other : List ℕ) × (left : List CheckFault)
    × IsApplied text fix other × AreFaultsOf other left × (length left < length fs) × (are_known text fs other left ≡ true)

-- a note tells a fault of the text at its place, and a change only if that leaves fewer faults
pub record TellsFault (text : List ℕ) (fs : List CheckFault) (note : Note) (f : CheckFault) : Type 0 where
  pub one : Contains fs f
  pub sort : note.sort ≡ Error
  pub place : IfSome (check_span f) (λ span. note.span ≡ span)
  pub mends : IfSome note.fix (LessensFaults text fs)

abbrev pub TellsOne : List ℕ → List CheckFault → Note → Type 0
TellsOne text fs note = (f : CheckFault) × TellsFault text fs note f

-- where those before tell such faults, and this is one, those after do too
abbrev pub TellsMore : List ℕ → List CheckFault → CheckFault → List Note → List Note → Type 0
TellsMore text fs f old new = Contains fs f → All (TellsOne text fs) old → All (TellsOne text fs) new
