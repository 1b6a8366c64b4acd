-- Believed. A note on a part of a text: where it stands and what is said, the source line, and carets under the part.
use Rattle.std.specs.Prelude.{ℕ, zero, suc, ◌+◌, ◌-◌, ◌==◌, ◌&&◌, List, [], ◌∷◌, ◌++◌, Bool, false, if◌then◌else◌, nat_le, nat_lt, not, ◌||◌, unwrap_or, codes, chars, decimal, drop, encode_utf8, flat_map, length, min, slice_index_or}
use Rattle.std.specs.{List.concat, List.prefix_len, Char.is_control}
use Rattle.unicode_width.specs.Width.{char_width}
use Rattle.kahn_texts.specs.Shown.{is_kept_back, shown_character, shown_text, spot_text, times_over}
use Rattle.kahn_streams.specs.{Place.line_of, Place.column_of, declared.span.Span.Span}
use Rattle.kahn_diagnostic.specs.{declared.rows.Row.Row, declared.rows.Row.TheVariants.Source, declared.rows.Row.TheVariants.Blanks, declared.rows.Row.TheVariants.Carets}

-- the columns that it takes then in a terminal
abbrev pub columns : ℕ → ℕ
columns c = if c == 9 then 4 else if is_kept_back c then 1 else unwrap_or (char_width false c) 0

-- byte i is among these
abbrev pub is_within : Span → ℕ → Bool
is_within s i = nat_le s.from i && nat_lt i s.to

-- what each row has of a character that begins at byte `at` of the text
abbrev pub near_piece : Row → Span → ℕ → ℕ → List ℕ
near_piece Source part at c = shown_character c
near_piece Blanks part at c = if nat_lt at part.from then times_over (columns c) (codes " ") else []
near_piece Carets part at c = if is_within part at then times_over (columns c) (codes "^") else []

abbrev pub piece_of : Row → Span → Span → ℕ → ℕ → List ℕ
piece_of row near part at c = if is_within near at then near_piece row part at c else []

-- characters, each with the byte at which it begins, where the first one begins at `at`
abbrev pub with_places : ℕ → List ℕ → List (ℕ × ℕ)
with_places at [] = []
with_places at (c ∷ cs) = (at, c) ∷ with_places (at + length (encode_utf8 c)) cs

-- a row of what is shown of a text
abbrev pub shown_row : Row → List ℕ → Span → Span → List ℕ
shown_row row text near part = flat_map (λ p. piece_of row near part p.0 p.1) (with_places 0 (chars text))

-- how many bytes of its line there are from byte i on
abbrev pub left_of_line : List ℕ → ℕ → ℕ
left_of_line text i = prefix_len (λ b. not (b == 10)) (drop i text)

-- where the line ends whose line feed is byte i, or where the text ends: a carriage return before a line feed is not of the line
abbrev pub line_end : List ℕ → ℕ → ℕ
line_end text i = if nat_lt i (length text) && slice_index_or text (i - 1) 0 == 13 then i - 1 else i

-- of the line of byte i 80 bytes are shown before it, and 80 from it on
abbrev pub near_end : List ℕ → ℕ → ℕ
near_end text i = min (line_end text (i + left_of_line text i)) (i + 80)

abbrev pub near_of : List ℕ → ℕ → Span
near_of text i = record { from = i - min (column_of text i - 1) 80; to = near_end text i }

-- one caret at least
abbrev pub one_at_least : List ℕ → List ℕ
one_at_least [] = codes "^"
one_at_least (c ∷ cs) = c ∷ cs

abbrev pub carets_of : List ℕ → Span → Span → List ℕ
carets_of text near part = one_at_least (shown_row Carets text near part)

-- the source line of a part with its number; and below it blanks, and carets
abbrev pub rows_text : List ℕ → List ℕ → Span → Span → List ℕ
rows_text text number near part =
    concat (codes " " ∷ number ∷ codes " | " ∷ shown_row Source text near part ∷ codes "\n " ∷ [])
    ++ times_over (length number) (codes " ") ++ codes " | " ++ shown_row Blanks text near part ++ carets_of text near part ++ codes "\n"

-- `PATH:LINE:COLUMN: SORT: WORDS`, where the sort is `error`, `note` or `warning`
abbrev pub heading : List ℕ → List ℕ → List ℕ → ℕ → List ℕ → List ℕ
heading sort path text from words = concat (path ∷ spot_text (codes ":") text from ∷ codes ": " ∷ sort ∷ codes ": " ∷ shown_text words ∷ codes "\n" ∷ [])

-- a part that begins within the text: at its end where it has no byte at which the part begins
abbrev pub begun_within : List ℕ → Span → Span
begun_within text s = record { from = min s.from (length text); to = s.to }

-- what is said of a part of a text, and its line
abbrev pub marked_as : List ℕ → List ℕ → List ℕ → Span → List ℕ → List ℕ
marked_as sort path text span words =
    heading sort path text span.from words
    ++ rows_text text (decimal (line_of text span.from)) (near_of text (min span.from (length text))) (begun_within text span)
