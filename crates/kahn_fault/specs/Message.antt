-- Believed. What the program says of a fault: one line.
use Rattle.std.specs.Prelude.{ℕ, ◌+◌, ◌≤◌, List, [], ◌∷◌, codes, decimal, length, min, string_bytes, Option, Some, None, Result}
use Rattle.std.specs.{List.concat, declared.alloc.Global.Global, declared.string.String.String}
use Rattle.kahn_streams.specs.{Place.line_of, Place.column_of, Written.Writes, declared.span.Span.Span, declared.entries.InputFault.InputFault, declared.fault.CheckFault.CheckFault, declared.fault.RunFault.RunFault}
use Rattle.kahn_syntax.specs.{declared.fault.SyntaxFault.SyntaxFault, declared.fault.What.What, declared.fault.What.TheVariants.More, declared.fault.What.TheVariants.Nothing, declared.fault.What.TheVariants.Other}
use Rattle.kahn_syntax.specs.declared.fault.SyntaxFault.TheVariants as syntax
use Rattle.kahn_streams.specs.declared.fault.CheckFault.TheVariants as checked
use Rattle.kahn_streams.specs.declared.entries.InputFault.TheVariants as input
use Rattle.kahn_streams.specs.declared.fault.RunFault.TheVariants as run
use Rattle.kahn_texts.specs.declared.{input.TextFault.TextFault, read.ReadFault.ReadFault}
use Rattle.kahn_texts.specs.declared.input.TextFault.TheVariants as text
use Rattle.kahn_texts.specs.declared.read.ReadFault.TheVariants as read
use Rattle.kahn_fault.specs.{declared.work.WorkFault.WorkFault, declared.fault.Fault.Fault, declared.fault.Fault.TheVariants.Open, declared.fault.Fault.TheVariants.Program, declared.fault.Fault.TheVariants.InputText, declared.fault.Fault.TheVariants.Work}
use Rattle.kahn_fault.specs.declared.work.WorkFault.TheVariants as work

-- the line went out, or after a fault of the writer a prefix of it, by at most one write for each of its bytes
abbrev pub WritesCounted : {W C X E : Type 0} → (W → Option (List ℕ)) → (C → ℕ) → W → W → Result X E → C → C → List ℕ → Type 0
WritesCounted contents count old new result before after line = Writes (contents old) (contents new) result line × (count after ≤ count before + length line)

-- a line of words, of what stands between, and of more words
abbrev pub between_line : List ℕ → List ℕ → List ℕ → List ℕ
between_line before between after = concat (codes "kahn: " ∷ before ∷ between ∷ after ∷ codes "\n" ∷ [])

-- a line of words alone
abbrev pub words_line : List ℕ → List ℕ
words_line words = between_line words [] []

-- a line with two numbers before its words
abbrev pub numbered_line : List ℕ → List ℕ → List ℕ → List ℕ
numbered_line line column words = concat (codes "kahn: " ∷ line ∷ codes ":" ∷ column ∷ codes ": " ∷ words ∷ codes "\n" ∷ [])

-- these are the line and the column of a byte of the program text, each from 1
abbrev pub place_line : List ℕ → ℕ → List ℕ → List ℕ
place_line program from words = numbered_line (decimal (line_of program from)) (decimal (column_of program from)) words

-- a line with the place of a part, if there is one; a place beyond the text is reported as the text's end
abbrev pub placed_line : List ℕ → Option Span → List ℕ → List ℕ
placed_line program None words = words_line words
placed_line program (Some span) words = place_line program (min span.from (length program)) words

-- of memory that was refused
abbrev pub memory_line : List ℕ
memory_line = words_line (codes "no memory")

-- why a lexeme is unexpected
abbrev pub what_words : What → List ℕ
what_words Other = codes "this cannot stand here"
what_words More = codes "text ends too early"
what_words Nothing = codes "text goes on after the program"

-- the place at which a text is no program, if it is one place, and why
abbrev pub syntax_told : SyntaxFault → Option Span × List ℕ
syntax_told syntax.TooLong = (None, codes "program text is too long")
syntax_told (syntax.BadCharacter span) = (Some span, codes "character is not of the language")
syntax_told (syntax.NumberTooLarge span) = (Some span, codes "number is too large")
syntax_told (syntax.CommentOpen span) = (Some span, codes "comment has no end")
syntax_told (syntax.NameTooLong span) = (Some span, codes "name is too long")
syntax_told (syntax.Expected span what) = (Some span, what_words what)
syntax_told (syntax.TooDeep span) = (Some span, codes "nesting is too deep")
syntax_told syntax.NoMemory = (None, codes "no memory")

abbrev pub syntax_span : SyntaxFault → Option Span
syntax_span fault = (syntax_told fault).0

abbrev pub syntax_words : SyntaxFault → List ℕ
syntax_words fault = (syntax_told fault).1

-- the place for which a program is refused, if it is one place, and why
abbrev pub check_told : CheckFault → Option Span × List ℕ
check_told (checked.DeclaredTwice span) = (Some span, codes "name is declared twice")
check_told (checked.Unknown span) = (Some span, codes "name is not declared")
check_told (checked.WrongKind span) = (Some span, codes "kind does not agree")
check_told (checked.WrongCount span) = (Some span, codes "number of arguments does not agree")
check_told (checked.ChannelExpected span) = (Some span, codes "a channel is expected")
check_told (checked.ValueExpected span) = (Some span, codes "a value is expected")
check_told (checked.WrongDirection span) = (Some span, codes "direction does not agree")
check_told (checked.NoWriter span) = (Some span, codes "channel has no writer")
check_told (checked.TwoWriters span) = (Some span, codes "channel has two writers")
check_told (checked.NoReader span) = (Some span, codes "channel has no reader")
check_told (checked.TwoReaders span) = (Some span, codes "channel has two readers")
check_told (checked.TooMany span) = (Some span, codes "limit is exceeded")
check_told checked.NoMemory = (None, codes "no memory")

abbrev pub check_span : CheckFault → Option Span
check_span fault = (check_told fault).0

abbrev pub check_words : CheckFault → List ℕ
check_words fault = (check_told fault).1

-- of an entry of the input text, by its place from 1
abbrev pub entry_line : InputFault → List ℕ
entry_line (input.UnknownName n) = between_line (codes "input entry ") (decimal n) (codes ": no such channel")
entry_line (input.NotAnInput n) = between_line (codes "input entry ") (decimal n) (codes ": not an input channel")
entry_line (input.GivenTwice n) = between_line (codes "input entry ") (decimal n) (codes ": given twice")
entry_line (input.WrongKind n) = between_line (codes "input entry ") (decimal n) (codes ": kind does not agree")
entry_line (input.TooMany n) = between_line (codes "input entry ") (decimal n) (codes ": too many values")
entry_line input.NoMemory = memory_line

-- of an input text that is refused, by its line from 1
abbrev pub text_line : TextFault → List ℕ
text_line (text.BadLine n) = between_line (codes "input line ") (decimal n) (codes ": not a name and a colon")
text_line (text.BadValue n) = between_line (codes "input line ") (decimal n) (codes ": not a value")
text_line (text.Input fault) = entry_line fault
text_line text.TooLong = words_line (codes "input text is too long")
text_line text.NoMemory = memory_line

-- of a run that has no answer
abbrev pub run_line : RunFault → List ℕ
run_line run.BadConfig = words_line (codes "configuration is out of range")
run_line run.UnknownWatch = words_line (codes "watched channel is not declared")
run_line run.NoMemory = memory_line
run_line run.NoThread = words_line (codes "no thread")
run_line run.Stalled = words_line (codes "workers stalled")

-- of a run without a report
abbrev pub work_line : List ℕ → WorkFault → List ℕ
work_line program (work.Syntax fault) = placed_line program (syntax_span fault) (syntax_words fault)
work_line program (work.Check fault) = placed_line program (check_span fault) (check_words fault)
work_line program (work.Text fault) = text_line fault
work_line program (work.Run fault) = run_line fault
work_line program (work.Write fault) = words_line (codes "report could not be written")

-- of a text that wasn't read, by its path and what is said if it is too long
abbrev pub read_line : List ℕ → List ℕ → ReadFault → List ℕ
read_line path long read.Failed = between_line (codes "cannot read ") path []
read_line path long read.TooLong = words_line long
read_line path long read.NotUtf8 = between_line path (codes " is not UTF-8") []
read_line path long read.NoMemory = memory_line

-- what a path is called
abbrev pub path_words : Option (String Global) → List ℕ
path_words (Some path) = string_bytes path
path_words None = codes "standard input"

-- the line of a fault over a program text
abbrev pub fault_text : List ℕ → Fault → List ℕ
fault_text program (Open path) = between_line (codes "cannot read ") (string_bytes path) []
fault_text program (Program path fault) = read_line (path_words path) (codes "program text is too long") fault
fault_text program (InputText path fault) = read_line (string_bytes path) (codes "input text is too long") fault
fault_text program (Work fault) = work_line program fault
