-- Believed. What is said of a run on lines: of which line, why one isn't taken, and in which words (this project's profile).
use Rattle.std.specs.Prelude.{ℕ, ◌-◌, ◌^◌, ◌==◌, ◌&&◌, ◌++◌, Bool, true, false, not, List, [], ◌∷◌, Option, Result, codes, decimal, if◌then◌else◌, length, nat_lt}
use Rattle.std.specs.List.{concat}
use Rattle.kahn_streams.specs.{declared.value.Failure.Failure, declared.value.Failure.TheVariants.Overflow, declared.value.Failure.TheVariants.Division, Written.Writes}
use Rattle.kahn_streams.specs.declared.feeds.FeedFault.TheVariants as feed
use Rattle.kahn_texts.specs.Shown.{shown_part}
use Rattle.kahn_session.specs.declared.refusal.TakeFault.{TakeFault}
use Rattle.kahn_session.specs.declared.refusal.TakeFault.TheVariants as take
use Rattle.kahn_session.specs.declared.refusal.Origin.{Origin}
use Rattle.kahn_session.specs.declared.refusal.Origin.TheVariants.{File, Plain, Watch, Line}

-- why a line isn't taken
abbrev pub take_words : TakeFault → List ℕ
take_words take.TooLong = codes "line is too long"
take_words take.NotUtf8 = codes "not UTF-8"
take_words take.BadLine = codes "not a name and a colon"
take_words take.BadValue = codes "not a value"
take_words take.BadRow = codes "not one value for each channel"
take_words (take.Feed feed.UnknownName) = codes "no such channel"
take_words (take.Feed feed.NotAnInput) = codes "not an input channel"
take_words (take.Feed feed.WrongKind) = codes "kind does not agree"
take_words (take.Feed feed.TooMany) = codes "too many values"
take_words (take.Feed feed.NoMemory) = codes "no memory"
take_words take.NoMemory = codes "no memory"
take_words (take.Write f) = codes "news could not be written"

-- whether memory was refused for a line
abbrev pub is_want : TakeFault → Bool
is_want take.NoMemory = true
is_want (take.Feed feed.NoMemory) = true
is_want f = false

-- how many lines more weren't taken for the same reason, behind their number
abbrev pub like_words : ℕ → List ℕ
like_words count = if count == 1 then codes " line more like it" else codes " lines more like it"

-- which fault a process has, behind its name
abbrev pub failure_words : Failure → List ℕ
failure_words Overflow = codes " has a fault: overflow"
failure_words Division = codes " has a fault: division"

-- ---- where what is said comes from

-- the number of each line of `--at-end`, which no line of the input has
abbrev pub at_end_number : ℕ
at_end_number = 2 ^ 64 - 1

abbrev pub origin : Origin → List ℕ
origin File = []
origin Plain = codes ": --plain"
origin Watch = codes ": --watch"
origin (Line number) = if number == at_end_number then codes ": --at-end" else codes ": input line " ++ decimal number

-- of a line that isn't taken: of number 0 is the one that `--plain` makes of a channel, and want of memory before the first line
abbrev pub refused_origin : ℕ → TakeFault → Origin
refused_origin number f = if number == 0 && not (is_want f) then Plain else Line number

-- ---- what is said

-- what stands around a part of a line, of which so many bytes are shown
abbrev pub before_part : List ℕ → List ℕ
before_part [] = []
before_part (b ∷ bs) = codes ": `"

abbrev pub behind_part : List ℕ → ℕ → List ℕ
behind_part [] shown = []
behind_part (b ∷ bs) shown = if nat_lt shown (length (b ∷ bs)) then codes "..`" else codes "`"

-- the program's file, where it comes from, words, a part of a line as it is shown, and more words
abbrev pub said_text : List ℕ → List ℕ → List ℕ → List ℕ → List (List ℕ) → List ℕ
said_text path from words part more =
    concat (path ∷ from ∷ codes ": " ∷ words ∷ before_part part ∷ shown_part part ∷ behind_part part (length (shown_part part)) ∷ (more ++ (codes "\n" ∷ [])))

-- that was written, or after a fault of the writer a prefix of it
abbrev pub Says : {X E : Type 0} → Option (List ℕ) → Option (List ℕ) → Result X E → List ℕ → List ℕ → List ℕ → List ℕ → List (List ℕ) → Type 0
Says old new r path from words part more = Writes old new r (said_text path from words part more)
