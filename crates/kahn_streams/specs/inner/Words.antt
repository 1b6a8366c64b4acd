-- Inner. Which value a word is.
use Rattle.std.specs.Prelude.{◌≡◌, pos, if◌then◌else◌, ◌+◌, nat_eq}
use Rattle.std.specs.Int.{w64, from_le_bytes, cast_signed, from_bool}
use Rattle.kahn_streams.specs.{Types.Value, declared.value.Value.TheVariants.Integer, declared.value.Value.TheVariants.Logical, declared.word.Word.TheInside.Inside, declared.word.Packed.TheInside.Inside as Bytes}

abbrev pub word_value : Inside → Value
word_value w = if nat_eq w.mark 0 then Integer w.number else Logical (nat_eq w.mark 2)

abbrev pub word_of : Value → Inside
word_of (Integer z) = record { number = z; mark = 0; rest = 0 }
word_of (Logical b) = record { number = pos 0; mark = from_bool b + 1; rest = 0 }

-- it is the word of its value
abbrev pub IsCanonical : Inside → Type 0
IsCanonical w = word_of (word_value w) ≡ w

pub word_of-value_of : (w : Inside) → IsCanonical w → word_of (word_value w) ≡ w
word_of-value_of w h = h

-- the word that was packed
abbrev pub unpacked : Bytes → Inside
unpacked p = record { number = cast_signed w64 (from_le_bytes w64 p.number); mark = p.mark; rest = 0 }

abbrev pub packed_value : Bytes → Value
packed_value p = word_value (unpacked p)

abbrev pub IsPacked : Bytes → Type 0
IsPacked p = IsCanonical (unpacked p)
