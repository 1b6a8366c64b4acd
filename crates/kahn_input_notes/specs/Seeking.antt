-- Believed. Which line of an input text is at fault.
use Rattle.std.specs.Prelude.{◌≡◌, ◌⊎◌, ◌+◌, ◌≤◌, ℕ, Bool, true, false, List, ◌∷◌, ◌++◌, All, bytes_eq, length}
use Rattle.kahn_streams.specs.{declared.span.Span.Span, Inputs.Entry}
use Rattle.kahn_texts.specs.Formats.{AreBlanks, AreEntries, content, text_lines}
use Rattle.kahn_input_notes.specs.Fitting.{moved_by, line_name, name_span, parts_length}

-- how much a line counts: each one, or entries alone, which aren't blank
abbrev pub CountsAs : Bool → List ℕ → ℕ → Type 0
CountsAs true line n = ((n ≡ 0) × AreBlanks line) ⊎ ((n ≡ 1) × ¬ AreBlanks line)
CountsAs false line n = n ≡ 1

-- how many lines these are, or entries that they spell
abbrev pub CountTo : Bool → List (List ℕ) → ℕ → Type 0
CountTo true lines n = (es : List Entry) → AreEntries lines es → length es ≡ n
CountTo false lines n = length lines ≡ n

-- a line that begins at this byte, and has this number, from 0
abbrev pub IsFound : List ℕ → Bool → ℕ → ℕ → List ℕ → Type 0
IsFound text entries number from line = (before : List (List ℕ)) × (whole : List ℕ) × (after : List (List ℕ))
    × (text_lines text ≡ before ++ (whole ∷ after)) × CountTo entries before number × CountsAs entries (content whole) 1
    × (line ≡ content whole) × (from ≡ parts_length before) × (from + length line ≤ length text)

-- there are no more than that
abbrev pub IsUnfound : List ℕ → Bool → ℕ → Type 0
IsUnfound text entries number = (n : ℕ) × CountTo entries (text_lines text) n × (n ≤ number)

-- the first line that begins with this name, and where the name stands
abbrev pub has_line_name : List ℕ → List ℕ → Bool
has_line_name name line = bytes_eq (line_name line) name

abbrev pub IsFirstNamed : List ℕ → List ℕ → Span → Type 0
IsFirstNamed text name span = (before : List (List ℕ)) × (whole : List ℕ) × (after : List (List ℕ)) × (text_lines text ≡ before ++ (whole ∷ after))
    × All (λ line. has_line_name name line ≡ false) before × (has_line_name name whole ≡ true) × (span ≡ moved_by (parts_length before) (name_span whole))

abbrev pub IsNamedNowhere : List ℕ → List ℕ → Type 0
IsNamedNowhere text name = All (λ line. has_line_name name line ≡ false) (text_lines text)
