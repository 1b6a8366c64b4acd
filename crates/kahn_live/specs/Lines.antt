-- Believed. The lines of standard input: where each is cut, and what is fed of it (this project's profile).
use Rattle.std.specs.Prelude.{◌≡◌, ◌⊎◌, ◌==◌, ◌&&◌, ℕ, Bool, true, false, ◌+◌, ◌<◌, ⊤, List, [], ◌∷◌, ◌++◌, length, take, drop, Option, None, Some, IfSome, if◌then◌else◌}
use Rattle.std.specs.{Io.BufRead.DropsThrough, Io.KnownBytes.IsAtEnd, Cmp.Lexicographic.pointwise, List.before_first, List.list_any}
use Rattle.kahn_texts.specs.Formats.{most_input_bytes}
use Rattle.kahn_live.specs.{declared.lines.Next.Next, declared.lines.Next.TheVariants.Line, declared.lines.Next.TheVariants.End, declared.lines.Next.TheVariants.Failed, declared.lines.Next.TheVariants.NoMemory, declared.outlet.DeferredWriter.DeferredWriter}

-- the line stands before the first line feed of what a reader has left, which isn't empty, or is all of it; behind that feed this is left
abbrev pub CutsLine : List ℕ → Option (List ℕ) → Option (List ℕ) → Type 0
CutsLine line old new = IfSome old (λ text. (0 < length text) × (line ≡ before_first (λ b. b == 10) text)) × DropsThrough old new 10

abbrev pub byte_order_mark : List ℕ
byte_order_mark = 239 ∷ 187 ∷ 191 ∷ []

abbrev pub has_mark : List ℕ → Bool
has_mark line = pointwise (λ a b. a == b) (take 3 line) byte_order_mark

-- the line of this number: the first may begin with a byte order mark, which is no part of it
abbrev pub unmarked : ℕ → List ℕ → List ℕ
unmarked number line = if number == 1 && has_mark line then drop 3 line else line

-- the line as it is fed: as it stands, or behind the name of the input channel and a colon, where values stand alone
abbrev pub fed_text : Option (List ℕ) → List ℕ → List ℕ
fed_text None line = line
fed_text (Some name) line = name ++ (58 ∷ line)

-- how many bytes of a line are kept: more than are within its limit, behind a byte order mark too
abbrev pub most_kept : ℕ
most_kept = 4 + most_input_bytes

-- what the reading of a line gives: the line, of which no more is kept than decides whether it is too long
abbrev pub IsNextLine : Option (List ℕ) → Option (List ℕ) → List ℕ → Next → Type 0
IsNextLine old new kept Line = (line : List ℕ) × CutsLine line old new × (kept ≡ take most_kept line)
IsNextLine old new kept End = IsAtEnd old
IsNextLine old new kept Failed = ⊤
IsNextLine old new kept NoMemory = (line : List ℕ) × CutsLine line old new

-- a read doesn't wait for a line, or nothing that is new waits to be sent
abbrev pub IsReadyToRead : {W : Type 0} → List ℕ → DeferredWriter W → Type 0
IsReadyToRead come outlet = (list_any (λ b. b == 10) come ≡ true) ⊎ (outlet.due ≡ false)
