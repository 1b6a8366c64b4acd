-- Believed. Rows: lines that have one value for each of several channels (this project's profile).
use Rattle.std.specs.Prelude.{◌≡◌, ◌≢◌, ◌⊎◌, ◌==◌, ◌||◌, ◌<◌, not, ℕ, Bool, true, false, List, [], ◌∷◌, ◌++◌, length, map, take, drop, Option, None, Some, Result, Ok, Err, if◌then◌else◌}
use Rattle.std.specs.{List.list_any, List.position_or_len, declared.alloc.Global.Global, declared.vec.Vec.Vec}
use Rattle.kahn_texts.specs.Formats.{is_blank}
use Rattle.kahn_streams.specs.{declared.fault.RunFault.RunFault, declared.fault.RunFault.TheVariants.NoMemory as NoMemoryRun, declared.fault.RunFault.TheVariants.UnknownWatch}
use Rattle.kahn_sequential.specs.HeldRuns.{HeldRun}
use Rattle.kahn_session.specs.{Live.IsMeantLine, Live.IsUnfedBy, Live.Live, Live.stream_of, declared.refusal.TakeFault.TakeFault, declared.refusal.TakeFault.TheVariants.BadRow, declared.refusal.TakeFault.TheVariants.NoMemory}

-- the names of several channels, with commas (44) between them: then each line is a row
abbrev pub row_names : Option (List ℕ) → Option (List ℕ)
row_names None = None
row_names (Some names) = if list_any (λ b. b == 44) names then Some names else None

-- or the name of one
abbrev pub bare_of : Option (List ℕ) → Option (List ℕ)
bare_of None = None
bare_of (Some name) = if list_any (λ b. b == 44) name then None else Some name

-- what stands between the words of a row, and between names: blanks, tabs, commas and carriage returns
abbrev pub is_row_gap : ℕ → Bool
is_row_gap b = (is_blank b || b == 44) || b == 13

abbrev pub from_word : List ℕ → List ℕ
from_word bytes = drop (position_or_len (λ b. not (is_row_gap b)) bytes) bytes

-- the first word, or nothing, and what stands behind it
abbrev pub first_word : List ℕ → List ℕ
first_word bytes = take (position_or_len is_row_gap (from_word bytes)) (from_word bytes)

abbrev pub behind_word : List ℕ → List ℕ
behind_word bytes = drop (position_or_len is_row_gap (from_word bytes)) (from_word bytes)

abbrev pub is_wordless : List ℕ → Bool
is_wordless bytes = length (first_word bytes) == 0

-- the line that feeds a word to the channel of a name
abbrev pub row_line : List ℕ → List ℕ → List ℕ
row_line name word = name ++ (58 ∷ word)

abbrev pub bytes_in : Vec ℕ Global → List ℕ
bytes_in v = v.items

-- the lines of these names and of a row's words, one after the other, up to the names and words that are left; all have a word, or, of a
-- blank row, none has
abbrev pub AreCells : Bool → List ℕ → List ℕ → List (List ℕ) → List ℕ → List ℕ → Type 0
AreCells blank names words [] rest left = (rest ≡ names) × (left ≡ words)
AreCells blank names words (cell ∷ cells) rest left =
    (0 < length (first_word names)) × (is_wordless words ≡ blank) × (cell ≡ row_line (first_word names) (first_word words))
    × AreCells blank (behind_word names) (behind_word words) cells rest left

-- each of the lines is meant for an input channel, or blank
abbrev pub AreMeant : Live → List (List ℕ) → Type 0
AreMeant s [] = Unit {0}
AreMeant s (line ∷ lines) = IsMeantLine line s.flow.run.network × AreMeant s lines

-- the first lines of a row are meant for input channels
abbrev pub IsRowFront : Live → List ℕ → List ℕ → List (List ℕ) → List ℕ → List ℕ → Type 0
IsRowFront s names row cells rest left = AreCells (is_wordless row) names row cells rest left × AreMeant s cells

-- these are all of them: one for each name, and no word is left
abbrev pub AreRowCells : Live → List ℕ → List ℕ → List (List ℕ) → Type 0
AreRowCells s names row cells = (rest : List ℕ) × (left : List ℕ) × IsRowFront s names row cells rest left
    × (is_wordless rest ≡ true) × (is_wordless left ≡ true) × (0 < length cells)

-- no name is left and a word is, or there was no name; or a name is left without a word, or has one in a blank row
abbrev pub IsMisfit : Bool → List (List ℕ) → List ℕ → List ℕ → Type 0
IsMisfit blank cells rest left =
    ((is_wordless rest ≡ true) × ((is_wordless left ≡ false) ⊎ (length cells ≡ 0))) ⊎ ((is_wordless rest ≡ false) × (is_wordless left ≢ blank))

-- why a row isn't taken: behind the lines of it that are meant for input channels it doesn't fit the names, or a line is refused, this one;
-- or memory was refused
abbrev pub IsBadRow : Live → List ℕ → List ℕ → TakeFault → List ℕ → Type 0
IsBadRow s names row f line = ((f ≡ NoMemory) × (line ≡ []))
    ⊎ ((cells : List (List ℕ)) × (rest : List ℕ) × (left : List ℕ) × IsRowFront s names row cells rest left
    × (((f ≡ BadRow) × (line ≡ []) × IsMisfit (is_wordless row) cells rest left)
    ⊎ ((line ≡ row_line (first_word rest) (first_word left)) × IsUnfedBy line s.flow f)))

-- the lines of a row, or why it isn't taken
abbrev pub IsRowTried : Live → List ℕ → List ℕ → Result (Vec (Vec ℕ Global) Global) (TakeFault × Vec ℕ Global) → Type 0
IsRowTried s names row (Ok cells) = AreRowCells s names row (map bytes_in cells.items)
IsRowTried s names row (Err r) = IsBadRow s names row r.0 (bytes_in r.1)

-- ---- rows of output

-- the streams of these numbers are those of the channels of these names, up to the names that are left
abbrev pub HaveStreams : HeldRun → List ℕ → List ℕ → List ℕ → Type 0
HaveStreams h names [] rest = rest ≡ names
HaveStreams h names (number ∷ numbers) rest =
    (0 < length (first_word names)) × (stream_of h (first_word names) ≡ Some number) × HaveStreams h (behind_word names) numbers rest

-- these are all of them; or there is no name, or behind the first ones there is no stream of the next; or memory was refused
abbrev pub AreNumbered : HeldRun → List ℕ → Result (Vec ℕ Global) RunFault → Type 0
AreNumbered h names (Ok numbers) = (is_wordless names ≡ false) × ((rest : List ℕ) × HaveStreams h names numbers.items rest × (is_wordless rest ≡ true))
AreNumbered h names (Err f) = (f ≡ NoMemoryRun) ⊎ ((f ≡ UnknownWatch) × ((is_wordless names ≡ true)
    ⊎ ((numbers : List ℕ) × (rest : List ℕ) × HaveStreams h names numbers rest × (0 < length (first_word rest)) × (stream_of h (first_word rest) ≡ None))))
