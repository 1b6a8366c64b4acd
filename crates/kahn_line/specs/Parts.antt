-- Believed. What words of a command line mean that have two parts.
use Rattle.std.specs.Prelude.{◌≡◌, ℕ, Bool, List, ◌∷◌, ◌++◌, ◌&&◌, Option, None, Some, ◌==◌, length, slice_index, codes, if◌then◌else◌, map, nat_lt, option_map, string_bytes, unwrap_or, []}
use Rattle.std.specs.{List.after_first, List.before_first, List.position_or_len, Borrow.Bor, Char.is_ascii_digit, Str.bytes_eq, declared.alloc.Global.Global, declared.string.String.String}
use Rattle.clap.specs.{Words.Row, Words.Text, Words.all_of, Words.rows_of, declared.parser.matches.Found.Found}
use Rattle.kahn_line.specs.declared.live.PlainNames.{PlainNames}

-- what comes before and after the first such sign; a word without it is the first part alone
abbrev pub parted : ℕ → Text → Text × Option Text
parted sign word = (
  before_first (λ b. b == sign) word,
  if nat_lt (position_or_len (λ b. b == sign) word) (length word) then Some (after_first (λ b. b == sign) word) else None,
)

-- whether a word is `--at-end`, and the one after it begins as a negative number does (45 is the minus)
abbrev pub takes_behind : Text → Text → Bool
takes_behind word value = bytes_eq word (codes "--at-end") && (slice_index value 0 == 45 && is_ascii_digit (slice_index value 1))

-- the words, with such two joined as in `--at-end=-1`
abbrev pub joined_words : List Text → List Text
joined_words [] = []
joined_words (word ∷ []) = word ∷ []
joined_words (word ∷ value ∷ words) =
    if takes_behind word value then (word ++ (codes "=" ++ value)) ∷ joined_words words else word ∷ joined_words (value ∷ words)

-- what was added to words joins the first of these, up to those that are left
abbrev pub IsJoinedBy : {S : Type 0} → (S → Text) → List (String Global) → List S → List (String Global) → List S → Type 0
IsJoinedBy text old words new left = (map string_bytes old ++ joined_words (map text words)) ≡ (map string_bytes new ++ joined_words (map text left))

-- the parts as a line of input, a name and values; a part alone is values of the input channel whose values stand alone, or else the line
abbrev pub line_of_parts : Option Text → Text × Option Text → Text
line_of_parts input (name, Some value) = name ++ (codes ": " ++ value)
line_of_parts (Some input) (value, None) = input ++ (codes ": " ++ value)
line_of_parts None (line, None) = line

-- the line for `NAME=VALUE` (61 is the sign `=`)
abbrev pub set_line : Option Text → Text → Text
set_line input word = line_of_parts input (parted 61 word)

-- the channels whose values are alone in the lines of input; without them lines begin with names
abbrev pub input_named : Option PlainNames → Option Text
input_named None = None
input_named (Some p) = option_map string_bytes p.input

-- a text that is lent, if one is
abbrev pub lent : Option (Bor Text) → Option Text
lent word = option_map (λ t. t.now) word

-- the names in a word; an empty word has none
abbrev pub names_in : Text → Option Text
names_in [] = None
names_in (b ∷ bs) = Some (b ∷ bs)

-- the names that an option gives: an option with an empty word is as if it weren't there
abbrev pub names_given : Option Text → Option Text
names_given None = None
names_given (Some word) = names_in word

-- the same of `--plain`, which has a comma (44) between both
abbrev pub short_given : Option Text → Option Text × Option Text
short_given None = (None, None)
short_given (Some word) = (names_in (parted 44 word).0, names_given (parted 44 word).1)

-- the first names, if there are some, and else the others; or none
abbrev pub first_named : Option Text × Option Text → Option Text × Option Text → Option (Option Text × Option Text)
first_named (Some inputs, outputs) others = Some (Some inputs, outputs)
first_named (None, Some outputs) others = Some (None, Some outputs)
first_named (None, None) (Some inputs, outputs) = Some (Some inputs, outputs)
first_named (None, None) (None, Some outputs) = Some (None, Some outputs)
first_named (None, None) (None, None) = None

-- the names of the channels whose values are alone: those of `--in` and of `--out`, and else those of `--plain`, their short form
abbrev pub columns_given : Option Text → Option Text → Option Text → Option (Option Text × Option Text)
columns_given inputs outputs plain = first_named (names_given inputs, names_given outputs) (short_given plain)

-- the names of the channels whose values are alone
abbrev pub plain_parts : PlainNames → Option Text × Option Text
plain_parts p = (option_map string_bytes p.input, option_map string_bytes p.output)

-- all texts that were found for a name
abbrev pub row_texts : Text → List Row → List Text
row_texts name rows = unwrap_or (all_of name rows) []

abbrev pub found_texts : Found → Text → List Text
found_texts found name = row_texts name (rows_of found)
