-- Believed. Where the words of a line of an input text stand, and which of them is at fault.
use Rattle.std.specs.Prelude.{◌≡◌, ◌⊎◌, ◌+◌, ◌-◌, ◌<◌, ℕ, Bool, false, List, [], ◌∷◌, ◌++◌, All, Option, Some, None, drop, if◌then◌else◌, length, min, nat_lt, not, slice_get, slice_range}
use Rattle.std.specs.{List.position_or_len, List.slice_split, Char.is_ascii_alphabetic}
use Rattle.kahn_streams.specs.{declared.span.Span.Span, declared.tree.Kind.Kind, declared.value.Value.Value, Inputs.kind_of_value}
use Rattle.kahn_texts.specs.Formats.{IsValue, is_blank, is_word_byte, most_name_bytes}

-- where the name of a line begins and ends, and where its colon stands
abbrev pub name_from : List ℕ → ℕ
name_from line = position_or_len (λ b. not (is_blank b)) line

abbrev pub name_to : List ℕ → ℕ
name_to line = name_from line + position_or_len (λ b. not (is_word_byte b)) (drop (name_from line) line)

abbrev pub colon_at : List ℕ → ℕ
colon_at line = name_to line + position_or_len (λ b. not (is_blank b)) (drop (name_to line) line)

-- the name, and what stands from there on up to a blank
abbrev pub name_span : List ℕ → Span
name_span line = record { from = name_from line; to = name_to line }

abbrev pub dark_span : List ℕ → ℕ → Span
dark_span line at = record { from = at; to = at + position_or_len is_blank (drop at line) }

abbrev pub part_of : List ℕ → Span → List ℕ
part_of line span = slice_range line span.from span.to

abbrev pub line_name : List ℕ → List ℕ
line_name line = part_of line (name_span line)

-- the same part of a text, where the line begins at this byte
abbrev pub moved_by : ℕ → Span → Span
moved_by by span = record { from = by + span.from; to = by + span.to }

abbrev pub is_letter : Option ℕ → Bool
is_letter (Some b) = is_ascii_alphabetic b
is_letter None = false

-- where a line goes wrong that doesn't begin with a name and a colon: where the name or the colon is wanted, or a name that is too long
abbrev pub lack_place : List ℕ → Span
lack_place line =
    if not (is_letter (slice_get line (name_from line))) then dark_span line (name_from line) else if nat_lt most_name_bytes (name_to line - name_from line) then name_span line else dark_span line (colon_at line)

-- a value of the kind, or any where none is asked for
abbrev pub IsOfAsked : Option Kind → Value → Type 0
IsOfAsked (Some kind) v = kind_of_value v ≡ kind
IsOfAsked None v = Unit {0}

-- a word that is such a value, and one that is none, or another
abbrev pub IsFitValue : Option Kind → List ℕ → Type 0
IsFitValue asked word = (v : Value) × IsValue word v × IsOfAsked asked v

abbrev pub IsUnfitWord : Option Kind → List ℕ → Type 0
IsUnfitWord asked word = ((v : Value) → IsValue word v → ⊥) ⊎ ((v : Value) × IsValue word v × ¬ IsOfAsked asked v)

-- a part between blanks that is such a value, or nothing
abbrev pub IsFitPart : Option Kind → List ℕ → Type 0
IsFitPart asked part = (length part ≡ 0) ⊎ IsFitValue asked part

-- the bytes of parts, each with the one that stands behind it
abbrev pub parts_length : List (List ℕ) → ℕ
parts_length [] = 0
parts_length (part ∷ parts) = length part + 1 + parts_length parts

-- the first word that is no such value
abbrev pub IsUnfit : Option Kind → List ℕ → Span → Type 0
IsUnfit asked bytes span = (before : List (List ℕ)) × (word : List ℕ) × (after : List (List ℕ)) × (slice_split is_blank bytes ≡ before ++ (word ∷ after))
    × All (IsFitPart asked) before × (0 < length word) × IsUnfitWord asked word × (span.from ≡ parts_length before) × (span.to ≡ span.from + length word)

-- all words are
abbrev pub AreAllFit : Option Kind → List ℕ → Type 0
AreAllFit asked bytes = All (IsFitPart asked) (slice_split is_blank bytes)

-- what stands behind the colon of a line begins here
abbrev pub rest_from : List ℕ → ℕ
rest_from line = min (colon_at line + 1) (length line)

-- the first word there that is no such value, or the name where all are
abbrev pub IsUnfitSpan : Option Kind → List ℕ → Span → Type 0
IsUnfitSpan asked line span =
    ((s : Span) × IsUnfit asked (drop (rest_from line) line) s × (span ≡ moved_by (rest_from line) s))
    ⊎ (AreAllFit asked (drop (rest_from line) line) × (span ≡ name_span line))
