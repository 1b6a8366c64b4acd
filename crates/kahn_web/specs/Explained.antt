-- Believed. What the page is told of why a run stopped, or a program or an input is refused.
use Rattle.std.specs.Prelude.{◌≡◌, ℕ, ◌⊎◌, ◌++◌, List, [], Some, Ok, codes, false, string_bytes}
use Rattle.kahn_streams.specs.{declared.tree.Program.Program, declared.answer.Answer.Answer}
use Rattle.kahn_texts.specs.{Formats.IsInputTextFault, declared.input.TextFault.TextFault}
use Rattle.kahn_fault.specs.Work.{IsChecked, IsTextAnswer}
use Rattle.kahn_explanation.specs.{Refusing.AreAllowed, Refusing.IsRefusedFor, Telling.HasToldInput, Why.IsExplained, declared.explaining.Came.Came, declared.why.told.Explanation.Explanation}
use Rattle.kahn_web.specs.Alone.{alone}

-- why a run of a program stopped, which is called `program` in notes, behind the notes on what is warned of in it
abbrev pub IsRunExplained : List ℕ → List ℕ → ℕ → List ℕ → Type 0
IsRunExplained program input bound text = (t : Program) × (a : Answer) × (notes : List ℕ) × (e : Explanation)
    × IsChecked program t × IsTextAnswer t input (alone bound) a × AreAllowed (codes "program") program false notes
    × IsExplained t a e × (text ≡ notes ++ string_bytes e.text)

-- the note on the fault of the input of a program, which is called `input`
abbrev pub IsInputRefused : List ℕ → List ℕ → List ℕ → Type 0
IsInputRefused program input text = (t : Program) × (fault : TextFault) × (came : Came) × IsChecked program t × IsInputTextFault t input fault
    × HasToldInput (codes "input") program input fault (Some []) (Some text) (Ok came)

-- one of them, or why the program is refused
abbrev pub IsReason : List ℕ → List ℕ → ℕ → List ℕ → Type 0
IsReason program input bound text =
    IsRefusedFor (codes "program") program false text ⊎ (IsInputRefused program input text ⊎ IsRunExplained program input bound text)
