-- Believed. The two texts beside the program (this project's profile): which entries an input text spells, line by line, the input that it
-- describes, and why one describes none; and the report of an answer, a function of the program and the answer. Each of its lines ends
-- with a line feed and has no blank at its end.
use Rattle.std.specs.Prelude.{◌≡◌, ◌≢◌, ℕ, ◌+◌, ◌-◌, ◌≤◌, ◌<◌, List, [], ◌∷◌, ◌++◌, length, slice_index, Bool, true, false, ◌==◌, ◌||◌, codes, All, take, if◌then◌else◌, ◌⊎◌, MatchOption, Option, map, slice_index_or, decimal, flat_map}
use Rattle.std.specs.{List.slice_split, List.concat, Char.is_ascii_alphabetic, Char.is_ascii_alphanumeric, Str.str_eq_ignore_ascii_case, Str.Parse.IsNumeral, Str.Parse.without_leading_sign, Str.Parse.signed_digits_value, declared.alloc.Global.Global, declared.string.String.String, declared.vec.Vec.Vec}
use Rattle.kahn_streams.specs.{declared.value.Value.Value, declared.tree.Program.Program, declared.entries.InputFault.InputFault, declared.value.Value.TheVariants.Integer, declared.value.Value.TheVariants.Logical, Inputs.Entry, Inputs.entry_of, Inputs.IsFirstRefused, Inputs.IsInputOf, Inputs.Lists, declared.value.Line.Line, View.bytes_of, Network.channel_names, Network.channels_of, Written.line_feed, Written.spaced_text, declared.value.Line.TheVariants.Channel, declared.value.Line.TheVariants.Print, declared.value.Failure.TheVariants.Overflow, declared.value.Failure.TheVariants.Division, Answers.values_of, declared.answer.Stream.Stream, declared.answer.Outcome.Outcome, declared.answer.Outcome.TheVariants.Ended, declared.answer.Outcome.TheVariants.Waits, declared.answer.Outcome.TheVariants.Faulted, declared.answer.Outcome.TheVariants.More, declared.answer.End.End, declared.answer.Verdict.Verdict, declared.answer.Verdict.TheVariants.Finished, declared.answer.Verdict.TheVariants.Bound, declared.answer.Verdict.TheVariants.Memory, declared.answer.Answer.Answer}
use Rattle.kahn_texts.specs.{declared.input.EntryFault.EntryFault, declared.input.EntryFault.TheVariants.NoHead, declared.input.EntryFault.TheVariants.NoValues, declared.input.TextFault.TextFault, declared.input.TextFault.TheVariants.BadLine, declared.input.TextFault.TheVariants.BadValue, declared.input.TextFault.TheVariants.Input, declared.input.TextFault.TheVariants.TooLong, declared.input.TextFault.TheVariants.NoMemory}
use Rattle.kahn_texts.specs.declared.input.EntryFault.TheVariants as line_fault
use Rattle.kahn_texts.specs.declared.input.TextFault.TheVariants as text_fault
use mir.Val.{SFits as FitsSigned}
use mir.Syntax.{w64}
use Rattle.kahn_streams.specs.declared.entries.InputFault.TheVariants as input_fault

-- ---- the input

-- the most bytes of an input text
abbrev pub most_input_bytes : ℕ
most_input_bytes = 16777216

-- the most bytes of a name
abbrev pub most_name_bytes : ℕ
most_name_bytes = 64

-- a space or a tab
abbrev pub is_blank : ℕ → Bool
is_blank byte = byte == 32 || byte == 9

-- a letter, a digit or `_`
abbrev pub is_word_byte : ℕ → Bool
is_word_byte byte = is_ascii_alphanumeric byte || byte == 95

-- bytes that are blanks alone, or none
abbrev pub AreBlanks : List ℕ → Type 0
AreBlanks bytes = All (λ b. is_blank b ≡ true) bytes

-- a word of at most 64 bytes: it begins with a letter
abbrev pub IsName : List ℕ → Type 0
IsName name = (is_ascii_alphabetic (slice_index name 0) ≡ true) × All (λ b. is_word_byte b ≡ true) name × (length name ≤ most_name_bytes)

-- the line begins with blanks, the name, blanks and a colon, and goes on with the rest
abbrev pub HasHead : List ℕ → List ℕ → List ℕ → Type 0
HasHead line name rest = (before : List ℕ) × (between : List ℕ) × (line ≡ before ++ (name ++ (between ++ (58 ∷ rest)))) × AreBlanks before × IsName name × AreBlanks between

-- the line begins with no name and colon
abbrev pub IsHeadless : List ℕ → Type 0
IsHeadless line = (name rest : List ℕ) → HasHead line name rest → ⊥

-- it begins with a name and a colon, and this rest alone comes after them
abbrev pub IsHead : List ℕ → List ℕ → List ℕ → Type 0
IsHead line name rest = HasHead line name rest × ((other behind : List ℕ) → HasHead line other behind → behind ≡ rest)

-- a value: an optional minus and digits, in the range of 64 bits, or `true` or `false` in any letter case
abbrev pub IsValue : List ℕ → Value → Type 0
IsValue word (Integer number) = (slice_index word 0 ≢ 43) × IsNumeral 10 (without_leading_sign word) × FitsSigned w64 number × (number ≡ signed_digits_value 10 word)
IsValue word (Logical true) = str_eq_ignore_ascii_case word (codes "true") ≡ true
IsValue word (Logical false) = str_eq_ignore_ascii_case word (codes "false") ≡ true

-- the parts between blanks spell the values; empty parts count for nothing
abbrev pub SpellsValues : List (List ℕ) → List Value → Type 0
SpellsValues [] [] = Unit {0}
SpellsValues [] (value ∷ values) = ⊥
SpellsValues ([] ∷ parts) values = SpellsValues parts values
SpellsValues ((byte ∷ bytes) ∷ parts) [] = ⊥
SpellsValues ((byte ∷ bytes) ∷ parts) (value ∷ values) = IsValue (byte ∷ bytes) value × SpellsValues parts values

-- what comes after a line's colon spells the values
abbrev pub AreValues : List ℕ → List Value → Type 0
AreValues text values = SpellsValues (slice_split is_blank text) values

-- it spells no values
abbrev pub AreNoValues : List ℕ → Type 0
AreNoValues text = (values : List Value) → AreValues text values → ⊥

-- the line spells the entry
abbrev pub IsEntry : List ℕ → Entry → Type 0
IsEntry line entry = (rest : List ℕ) × HasHead line entry.0 rest × AreValues rest entry.1

-- the lines of a text: a line ends with a line feed or with the end of the text
abbrev pub text_lines : List ℕ → List (List ℕ)
text_lines text = slice_split (λ b. b == 10) text

-- a line without one carriage return before its end
abbrev pub content : List ℕ → List ℕ
content line = if slice_index line (length line - 1) == 13 then take (length line - 1) line else line

-- the lines spell the entries; blank lines are skipped
abbrev pub AreEntries : List (List ℕ) → List Entry → Type 0
AreEntries [] [] = Unit {0}
AreEntries [] (entry ∷ entries) = ⊥
AreEntries (line ∷ lines) [] = AreBlanks (content line) × AreEntries lines []
AreEntries (line ∷ lines) (entry ∷ entries) =
    (AreBlanks (content line) × AreEntries lines (entry ∷ entries)) ⊎ (IsEntry (content line) entry × AreEntries lines entries)

-- a line that is blank or an entry
abbrev pub IsGood : List ℕ → Type 0
IsGood line = AreBlanks (content line) ⊎ ((entry : Entry) × IsEntry (content line) entry)

-- a line that isn't blank and has no name and colon
abbrev pub HasNoHead : List ℕ → Type 0
HasNoHead line = ¬ AreBlanks line × IsHeadless line

-- a line that has a name and a colon, and what comes after any such isn't values
abbrev pub HasNoValues : List ℕ → Type 0
HasNoValues line = ((name : List ℕ) × (rest : List ℕ) × HasHead line name rest)
    × ((name rest : List ℕ) (values : List Value) → HasHead line name rest → AreValues rest values → ⊥)

-- line n, counted from 1, is as P says, and each line before it is blank or an entry
abbrev pub IsFirstLine : (List ℕ → Type 0) → List ℕ → ℕ → Type 0
IsFirstLine P text n = (before : List (List ℕ)) × (line : List ℕ) × (after : List (List ℕ))
    × (text_lines text ≡ before ++ (line ∷ after)) × (n ≡ length before + 1) × All IsGood before × P (content line)

-- what is read of a line: an entry, or nothing if it is blank
abbrev pub IsReadLine : List ℕ → Option (String Global × Vec Value Global) → Type 0
IsReadLine line read = MatchOption read (AreBlanks line) (λ entry. IsEntry line (entry_of entry))

-- why a line is no entry
abbrev pub IsLineFault : List ℕ → EntryFault → Type 0
IsLineFault line NoHead = HasNoHead line
IsLineFault line NoValues = HasNoValues line
IsLineFault line line_fault.NoMemory = Unit {0}

-- the text is within its limit and spells the entries
abbrev pub IsInputText : List ℕ → List Entry → Type 0
IsInputText text entries = (length text ≤ most_input_bytes) × AreEntries (text_lines text) entries

-- the first entries that the text spells, at most `most`
abbrev pub AreFirstEntries : List ℕ → ℕ → List Entry → Type 0
AreFirstEntries text most first = (entries : List Entry) × IsInputText text entries × (first ≡ take most entries)

-- why an input text has no entries: it is too long, or else its first line that is neither blank nor an entry
abbrev pub IsEntriesFault : List ℕ → TextFault → Type 0
IsEntriesFault text (BadLine n) = (length text ≤ most_input_bytes) × IsFirstLine HasNoHead text n
IsEntriesFault text (BadValue n) = (length text ≤ most_input_bytes) × IsFirstLine HasNoValues text n
IsEntriesFault text TooLong = most_input_bytes < length text
IsEntriesFault text text_fault.NoMemory = length text ≤ most_input_bytes
IsEntriesFault text (Input fault) = ⊥

-- the text spells entries with which nothing is wrong, and which give the channels these lists
abbrev pub StandsFor : Program → List ℕ → Lists → Type 0
StandsFor t text lists = (entries : List Entry) × IsInputText text entries × IsInputOf t entries lists

-- why a text describes no input: it spells no entries, or else one of its entries is refused
abbrev pub IsInputTextFault : Program → List ℕ → TextFault → Type 0
IsInputTextFault t text (Input fault) = (entries : List Entry) × IsInputText text entries × IsFirstRefused t entries fault
IsInputTextFault t text fault = IsEntriesFault text fault

-- a fault of the input as a fault of the text: refused memory is the text's own
abbrev pub told_of_input : InputFault → TextFault
told_of_input input_fault.NoMemory = NoMemory
told_of_input fault = Input fault

-- ---- the report. First the names in a network, by number, counted from 0.

-- how many channels are declared
abbrev pub channel_count : Program → ℕ
channel_count program = length (channels_of program.declarations.items)

-- how many instances the program composes
abbrev pub instance_count : Program → ℕ
instance_count program = length program.instances.items

-- the declared name of a channel, and nothing past the last
abbrev pub channel_name : Program → ℕ → List ℕ
channel_name program channel = slice_index_or (channel_names program) channel []

-- the name of an instance's process, and nothing past the last
abbrev pub process_name : Program → ℕ → List ℕ
process_name program instance = slice_index_or (map (λ i. bytes_of i.process) program.instances.items) instance []

-- what a stream's line begins with: the name of its channel, or the number from 1 and the name of its process
abbrev pub line_head : Program → Line → List ℕ
line_head program (Channel channel) = concat (channel_name program channel ∷ codes ":" ∷ [])
line_head program (Print instance) = concat (codes "print " ∷ decimal (instance + 1) ∷ codes " " ∷ process_name program instance ∷ codes ":" ∷ [])

-- the line of a stream with these values: a space and the value for each
abbrev pub values_line : Program → Line → List Value → List ℕ
values_line program line values = line_head program line ++ (flat_map spaced_text values ++ line_feed)

-- a stream's line
abbrev pub stream_text : Program → Stream → List ℕ
stream_text program stream = values_line program stream.line (values_of stream)

-- the state of an instance
abbrev pub outcome_word : Outcome → List ℕ
outcome_word Ended = codes "ended"
outcome_word (Waits channel) = codes "waits on "
outcome_word (Faulted Overflow) = codes "fault overflow"
outcome_word (Faulted Division) = codes "fault division"
outcome_word More = codes "wants more"

-- the name of the channel on which it waits
abbrev pub waited_name : Program → Outcome → List ℕ
waited_name program Ended = []
waited_name program (Waits channel) = channel_name program channel
waited_name program (Faulted kind) = []
waited_name program More = []

-- an instance's line, of its number, its process, its state, its channel and its events
abbrev pub end_words : List ℕ → List ℕ → List ℕ → List ℕ → List ℕ → List ℕ
end_words number name word channel events = concat (codes "end " ∷ number ∷ codes " " ∷ name ∷ codes ": " ∷ word ∷ channel ∷ codes " after " ∷ events ∷ line_feed ∷ [])

-- an instance's line
abbrev pub end_text : Program → ℕ → End → List ℕ
end_text program instance end = end_words (decimal (instance + 1)) (process_name program instance) (outcome_word end.outcome) (waited_name program end.outcome) (decimal end.events)

-- the lines of the ends, the first of which is that of the given instance
abbrev pub ends_text : Program → ℕ → List End → List ℕ
ends_text program instance [] = []
ends_text program instance (end ∷ ends) = end_text program instance end ++ ends_text program (instance + 1) ends

-- how the run ended
abbrev pub verdict_text : Verdict → List ℕ
verdict_text Finished = codes "finished "
verdict_text Bound = codes "stopped by bound "
verdict_text Memory = codes "stopped by memory "

-- the last line, with the sum of the events
abbrev pub last_line : Verdict → ℕ → List ℕ
last_line verdict events = concat (verdict_text verdict ∷ decimal events ∷ line_feed ∷ [])

abbrev pub last_text : Answer → List ℕ
last_text answer = last_line answer.verdict answer.events

-- the report text: the streams, the instances in order, and how the run ended
abbrev pub report_text : Program → Answer → List ℕ
report_text program answer = flat_map (stream_text program) answer.streams.items
    ++ (ends_text program 0 answer.ends.items ++ last_text answer)

-- the line is one of the network's
abbrev pub IsLine : Program → Line → Type 0
IsLine program (Channel channel) = channel < channel_count program
IsLine program (Print instance) = instance < instance_count program

-- each stream is of a line of the network
abbrev pub HasItsLines : Program → Answer → Type 0
HasItsLines program answer = All (λ stream. IsLine program stream.line) answer.streams.items
