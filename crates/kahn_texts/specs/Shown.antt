-- Believed. What is shown of a text: places, how many more there are, its characters in a terminal, and a part of a line within a sentence.
use Rattle.std.specs.Prelude.{ℕ, zero, suc, ◌+◌, ◌==◌, ◌&&◌, ◌||◌, List, [], ◌∷◌, ◌++◌, Bool, if◌then◌else◌, nat_le, chars, codes, decimal, encode_utf8, flat_map, length, take}
use Rattle.std.specs.{List.concat, Char.is_control, Str.Lossy.utf8_valid_len}
use Rattle.kahn_streams.specs.Place.{line_of, column_of}

-- a line and a column behind a word
abbrev pub counted_text : List ℕ → ℕ → ℕ → List ℕ
counted_text before line column = concat (before ∷ decimal line ∷ codes ":" ∷ decimal column ∷ [])

-- those of a byte of a text, or of its end where the text has no such byte
abbrev pub spot_text : List ℕ → List ℕ → ℕ → List ℕ
spot_text before text from = counted_text before (line_of text from) (column_of text from)

-- the piece so many times
abbrev pub times_over : ℕ → List ℕ → List ℕ
times_over zero piece = []
times_over (suc n) piece = piece ++ times_over n piece

-- between these two
abbrev pub is_between : ℕ → ℕ → ℕ → Bool
is_between low high c = nat_le low c && nat_le c high

-- a format character that changes how or in which order those beside it are shown, or takes no place: the marks, embeddings, overrides
-- and isolates of a direction, what ends a line or a paragraph, what joins or parts words, and the mark of the order of bytes
abbrev pub is_format : ℕ → Bool
is_format c = c == 0x061C || is_between 0x200B 0x200F c || is_between 0x2028 0x202E c || is_between 0x2060 0x206F c || c == 0xFEFF

-- no terminal gets it as it is
abbrev pub is_kept_back : ℕ → Bool
is_kept_back c = is_control c || is_format c

-- a character as it is shown: a tab as four blanks, a control or format character as U+FFFD
abbrev pub shown_character : ℕ → List ℕ
shown_character c = if c == 9 then codes "    " else if is_kept_back c then encode_utf8 0xFFFD else encode_utf8 c

-- and a text, as of a path
abbrev pub shown_text : List ℕ → List ℕ
shown_text text = flat_map shown_character (chars text)

-- the end of a line that tells how many more there are
abbrev pub more_ending : ℕ → List ℕ
more_ending n = if n == 1 then codes " more\n" else codes "s more\n"

-- how many more of something there are than were told, behind what stands before that; nothing where there are none
abbrev pub unsaid_text : List ℕ → List ℕ → ℕ → List ℕ
unsaid_text before what n = if n == 0 then [] else concat (before ∷ codes "and " ∷ decimal n ∷ codes " " ∷ what ∷ more_ending n ∷ [])

-- up to the first character that no terminal gets; of a longer part 40 bytes, and the rest of the character there
abbrev pub ends_before : ℕ → ℕ → Bool
ends_before at c = is_kept_back c || nat_le 40 at

-- how many bytes that is of characters, where the first one begins at `at`
abbrev pub shown_length : ℕ → List ℕ → ℕ
shown_length at [] = 0
shown_length at (c ∷ cs) = if ends_before at c then 0 else length (encode_utf8 c) + shown_length (at + length (encode_utf8 c)) cs

-- of a part that is a text, and else of its front that is one
abbrev pub shown_part : List ℕ → List ℕ
shown_part part = take (shown_length 0 (chars (take (utf8_valid_len part) part))) part
