-- Believed. The note on why a program text is refused.
use Rattle.std.specs.Prelude.{◌≡◌, ◌⊎◌, ◌++◌, ℕ, Bool, true, List, [], Option, Some, None, Err, IfSome, MatchOption, string_bytes}
use Rattle.std.specs.{declared.alloc.Global.Global, declared.string.String.String}
use Rattle.kahn_streams.specs.{declared.span.Span.Span, declared.tree.Program.Program, declared.fault.CheckFault.CheckFault, Faults.verdict, Faults.faults}
use Rattle.kahn_check.specs.Parts.{faults_by_part}
use Rattle.kahn_syntax.specs.{declared.fault.What.What, declared.fault.SyntaxFault.SyntaxFault, declared.fault.SyntaxFault.TheVariants.Expected}
use Rattle.kahn_fault.specs.{declared.work.WorkFault.WorkFault, declared.work.WorkFault.TheVariants.Syntax, declared.work.WorkFault.TheVariants.Check, Message.check_span, Message.syntax_span, Message.syntax_words, Work.IsChecked, Work.IsParsed, Work.IsUnchecked}
use Rattle.kahn_diagnostic.specs.{Notes.IsRendered, declared.rendering.Note.Note}
use Rattle.kahn_program_notes.specs.Notes.{IsNoteAt, Mends}
use Rattle.kahn_explanation.specs.Noting.{AreFaultLines, AreWarningLines}

-- the place and the reason, where a lexeme can't stand or the text ends too early
abbrev pub expected_of : SyntaxFault → Option (Span × What)
expected_of (Expected span what) = Some (span, what)
expected_of _ = None

-- the words of a fault, and behind them what the language has in the place of a character that it hasn't
abbrev pub IsRefusedWords : SyntaxFault → List ℕ → Type 0
IsRefusedWords f words = (help : List ℕ) × (words ≡ syntax_words f ++ help)

-- the note at the place of a fault, where it has one, with a change that mends it or none
abbrev pub IsPlacedNote : List ℕ → SyntaxFault → Option Note → Type 0
IsPlacedNote program f note = MatchOption (syntax_span f) (note ≡ None)
    (λ span. (n : Note) × (note ≡ Some n) × (n.span ≡ span) × IsRefusedWords f (string_bytes n.words) × IfSome n.fix (Mends program span))

-- of a lexeme that can't stand it tells what may stand there; else it has the words of the fault, where that has a place
abbrev pub IsSyntaxNote : List ℕ → SyntaxFault → Option Note → Type 0
IsSyntaxNote program f note = MatchOption (expected_of f)
    (IsPlacedNote program f note)
    (λ e. (n : Note) × (note ≡ Some n) × IsNoteAt program e.0 e.1 n)

-- a note in lines, where there is one
abbrev pub IsRenderedAs : List ℕ → List ℕ → Option Note → Option (String Global) → Type 0
IsRenderedAs path program (Some n) (Some lines) = IsRendered path program n (string_bytes lines)
IsRenderedAs path program None None = Unit {0}
IsRenderedAs path program _ _ = ⊥

abbrev pub IsSyntaxRefusal : List ℕ → List ℕ → SyntaxFault → Option (String Global) → Type 0
IsSyntaxRefusal path program f lines = (note : Option Note) × IsSyntaxNote program f note × IsRenderedAs path program note lines

-- of a fault of the network: the text spells a program whose first fault it is, and the lines are of notes on the faults of its parts
abbrev pub IsNetworkNote : List ℕ → List ℕ → CheckFault → String Global → Type 0
IsNetworkNote path program f lines = (t : Program) × IsParsed program t × (verdict (faults t) (tt {0}) ≡ Err f)
    × AreFaultLines path program (faults_by_part t) (string_bytes lines)

-- where it has a place
abbrev pub IsCheckRefusal : List ℕ → List ℕ → CheckFault → Option (String Global) → Type 0
IsCheckRefusal path program f note = MatchOption note (check_span f ≡ None) (IsNetworkNote path program f)

-- the note on a fault, where it has a place
abbrev pub IsRefusal : List ℕ → List ℕ → WorkFault → Option (String Global) → Type 0
IsRefusal path program (Syntax f) note = IsSyntaxRefusal path program f note
IsRefusal path program (Check f) note = IsCheckRefusal path program f note
IsRefusal path program f note = note ≡ None

-- of the first fault of this very text
abbrev pub IsNoteOn : List ℕ → List ℕ → String Global → Type 0
IsNoteOn path program note = (f : WorkFault) × IsUnchecked program f × IsRefusal path program f (Some note)

-- the notes on what is warned of in the program of this text
abbrev pub AreNotesOn : List ℕ → List ℕ → List ℕ → Type 0
AreNotesOn path program lines = (t : Program) × IsChecked program t × AreWarningLines path program t lines

-- and there are none where it is asked to be strict
abbrev pub AreAllowed : List ℕ → List ℕ → Bool → List ℕ → Type 0
AreAllowed path program strict notes = AreNotesOn path program notes × (strict ≡ true → notes ≡ [])

-- why the program text is refused: the note on its fault, or the notes on what is warned of
abbrev pub IsRefusedFor : List ℕ → List ℕ → Bool → List ℕ → Type 0
IsRefusedFor path program strict text =
    ((note : String Global) × IsNoteOn path program note × (text ≡ string_bytes note)) ⊎ ((strict ≡ true) × AreNotesOn path program text × ¬ (text ≡ []))
