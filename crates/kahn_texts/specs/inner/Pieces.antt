-- Inner. The values of a line, cut into pieces.
use Rattle.std.specs.Prelude.{◌≡◌, ℕ, ◌<◌, List, length, flat_map, Option, IfSome, slice_index_or}
use Rattle.std.specs.{declared.alloc.Global.Global, declared.vec.Vec.Vec}
use Rattle.kahn_streams.specs.{declared.value.Value.Value, Written.spaced_text}

-- a space and the value for each of a piece
abbrev pub piece_text : List Value → List ℕ
piece_text values = flat_map spaced_text values

-- the text, if there is one, is the piece's
abbrev pub IsPieceText : List Value → Option (Vec ℕ Global) → Type 0
IsPieceText piece text = IfSome text (λ bytes. bytes.items ≡ piece_text piece)

-- the text, if there is one, is that of the piece of this number
abbrev pub IsTextAt : List (List Value) → ℕ → Option (Vec ℕ Global) → Type 0
IsTextAt pieces n text = (piece : List Value) → IsPieceText (slice_index_or pieces n piece) text

-- the texts are those of the first pieces
abbrev pub ArePieceTexts : List (List Value) → List (Option (Vec ℕ Global)) → Type 0
ArePieceTexts pieces texts = (n : ℕ) (piece : List Value) (text : Option (Vec ℕ Global)) → n < length texts →
    IsPieceText (slice_index_or pieces n piece) (slice_index_or texts n text)
