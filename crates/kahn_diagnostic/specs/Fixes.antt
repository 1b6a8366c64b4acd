-- Believed. A change of a text: what an editor puts there, how it is reported, and the text with it.
use Rattle.std.specs.Prelude.{ℕ, ◌-◌, ◌==◌, ◌&&◌, ◌||◌, List, [], ◌∷◌, ◌++◌, Bool, true, false, Option, Some, None, if◌then◌else◌, nat_le, nat_lt, not, codes, drop, length, slice_get, slice_index, slice_range, string_bytes, take, unwrap_or}
use Rattle.std.specs.{List.concat, Char.is_ascii_alphanumeric, Option.option_or}
use Rattle.kahn_streams.specs.declared.span.Span.{Span}
use Rattle.kahn_texts.specs.Shown.{spot_text}
use Rattle.kahn_diagnostic.specs.declared.rendering.Fix.{Fix}

-- ---- parts of a text

-- a character begins at byte i, or the text ends there
abbrev pub is_boundary : List ℕ → ℕ → Bool
is_boundary text i = i == length text || (nat_lt i (length text) && (nat_lt (slice_index text i) 128 || nat_le 192 (slice_index text i)))

abbrev pub is_part : List ℕ → Span → Bool
is_part text s = nat_le s.from s.to && is_boundary text s.from && is_boundary text s.to

-- a part of a text; nothing if no characters begin and end there
abbrev pub part_text : List ℕ → Span → List ℕ
part_text text s = if is_part text s then slice_range text s.from s.to else []

-- ---- what an editor puts there

abbrev pub is_word_letter : ℕ → Bool
is_word_letter b = is_ascii_alphanumeric b || b == 95

abbrev pub is_of_word : Option ℕ → Bool
is_of_word None = false
is_of_word (Some b) = is_word_letter b

abbrev pub is_dark : Option ℕ → Bool
is_dark None = false
is_dark (Some b) = not (b == 32)

-- a bracket, a comma or a semicolon
abbrev pub is_mark : List ℕ → Bool
is_mark put = length put == 1
    && (unwrap_or (slice_get put 0) 0 == 59 || unwrap_or (slice_get put 0) 0 == 44 || unwrap_or (slice_get put 0) 0 == 41 || unwrap_or (slice_get put 0) 0 == 40)

abbrev pub byte_before : List ℕ → ℕ → Option ℕ
byte_before text i = if i == 0 then None else slice_get text (i - 1)

-- a blank comes before it: between two words, and before what is inserted, unless that is such a sign
abbrev pub is_apart : List ℕ → List ℕ → Span → Bool
is_apart text put s = (s.from == s.to && not (is_mark put) && is_dark (byte_before text s.from))
    || (is_of_word (byte_before text s.from) && is_of_word (slice_get put 0))

-- and after it: between two words
abbrev pub is_followed : List ℕ → List ℕ → Span → Bool
is_followed text put s = is_of_word (option_or (slice_get put (length put - 1)) (byte_before text s.from)) && is_of_word (slice_get text s.to)

abbrev pub blank_if : Bool → List ℕ
blank_if true = codes " "
blank_if false = []

abbrev pub put_text : List ℕ → Fix → List ℕ
put_text text f = (blank_if (is_apart text (string_bytes f.put) f.span) ++ string_bytes f.put) ++ blank_if (is_followed text (string_bytes f.put) f.span)

-- the text with the change
abbrev pub applied_text : List ℕ → Fix → List ℕ
applied_text text f = (take f.span.from text ++ put_text text f) ++ drop f.span.to text

-- ---- how it is reported

abbrev pub side_words : Fix → List ℕ
side_words f = if nat_le f.beside.to f.span.from then codes "` after `" else codes "` before `"

-- what the change does
abbrev pub change_words : List ℕ → Fix → List ℕ
change_words text f =
    if length (string_bytes f.put) == 0 then concat (codes "remove `" ∷ part_text text f.span ∷ codes "`" ∷ [])
    else if f.span.from == f.span.to then concat (codes "insert `" ∷ string_bytes f.put ∷ side_words f ∷ part_text text f.beside ∷ codes "`" ∷ [])
    else concat (codes "replace `" ∷ part_text text f.span ∷ codes "` with `" ∷ string_bytes f.put ∷ codes "`" ∷ [])

-- and where, if that isn't where the note is
abbrev pub place_words : List ℕ → Span → Fix → List ℕ
place_words text span f = if f.span.from == span.from then [] else spot_text (codes " at ") text f.span.from

abbrev pub fix_words : List ℕ → Span → Fix → List ℕ
fix_words text span f = concat (codes "fix: " ∷ change_words text f ∷ place_words text span f ∷ [])
