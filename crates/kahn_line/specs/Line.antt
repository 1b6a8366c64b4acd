-- Believed. What the words of a command line ask for, in the words of the library that reads them.
use Rattle.std.specs.Prelude.{◌≡◌, ◌≢◌, ◌⊎◌, ◌<◌, ◌^◌, ⊤, ℕ, List, [], ◌∷◌, Bool, false, true, Option, Some, None, Result, codes, if◌then◌else◌, option_map, string_bytes}
use Rattle.std.specs.{declared.result.Result.TheVariants.Ok, declared.result.Result.TheVariants.Err, Str.bytes_eq, Str.Parse.IsNumeral, Str.Parse.digits_value, Str.Parse.without_leading_plus}
use Rattle.clap.specs.Words.{App, Rule, Text, IsAmong, fault_of, first_of, first_value, kind_of, matches_of, new_app, new_rule, one_of, one_text, with_rule}
use Rattle.clap.specs.{declared.error.Error.Error, declared.error.kind.ErrorKind.TheVariants.OutOfMemory, declared.builder.ArgAction.TheVariants.SetTrue, declared.builder.value_parser.ValueParser.TheVariants.Unsigned, declared.parser.matches.Found.Found}
use Rattle.kahn_streams.specs.{Answers.IsInRange, declared.config.Config.Config}
use Rattle.kahn_line.specs.{declared.line.Options.Options, declared.line.LineFault.LineFault, declared.line.LineFault.TheVariants.Refused, declared.line.LineFault.TheVariants.NoMemory}

-- an option with a text, as `--input FILE`
abbrev pub text_rule : Text → Rule
text_rule name = record (new_rule name) { long = Some name; value_names = 1 }

-- an option without a text
abbrev pub flag_rule : Text → Rule
flag_rule name = record (new_rule name) { long = Some name; action = Some SetTrue }

-- whether it was given, by what was found for it
abbrev pub was_given : Option Text → Bool
was_given None = false
was_given (Some text) = bytes_eq text (codes "true")

-- an option with a number from `least` to `most`, and its default
abbrev pub number_rule : Text → ℕ → ℕ → Text → Rule
number_rule name least most given =
    record (text_rule name) { parser = Some (Unsigned least most); defaults = given ∷ [] }

-- a program with `--help` and `--version`, before it has arguments
abbrev pub bare_app : Text → App
bare_app name = record (new_app name) { top = record (new_app name).top { has_version = true } }

-- the file that a word names, for the programs beside `kahn`: a minus is standard input
abbrev pub file_named : Text → Text
file_named word = if bytes_eq word (codes "-") then codes "/dev/stdin" else word

-- the options, and the program text's path without a name
abbrev pub kahn_app : App
kahn_app =
    with_rule (with_rule (with_rule (with_rule (with_rule (with_rule (bare_app (codes "kahn"))
    (new_rule (codes "PROGRAM")))
    (text_rule (codes "input")))
    (number_rule (codes "workers") 1 16 (codes "4")))
    (number_rule (codes "quantum") 1 1000000 (codes "1000")))
    (number_rule (codes "bound") 0 281474976710655 (codes "1000000")))
    (text_rule (codes "watch"))

-- the text that the words give for a name, by the rules of a program
abbrev pub text_of : App → List Text → Text → Option Text
text_of app words name = first_of name (matches_of app words)

-- whether they give one
abbrev pub is_flagged : App → List Text → Text → Bool
is_flagged app words name = was_given (text_of app words name)

-- the path that they give for a name
abbrev pub file_of : App → List Text → Text → Option Text
file_of app words name = option_map file_named (text_of app words name)

-- a number as it is written, and `other` if none is
abbrev pub number_or : ℕ → Option Text → ℕ
number_or other None = other
number_or other (Some text) = digits_value 10 (without_leading_plus text)

-- the number that the words give for a name
abbrev pub number_for : App → List Text → Text → ℕ → ℕ
number_for app words name other = number_or other (one_of name (matches_of app words))

-- a run is set up as the words say, and its numbers are within their limits; where no option has the name `watch`, no channel is watched
pub record IsSetBy (app : App) (words : List Text) (c : Config) : Type 0 where
  pub watch : option_map string_bytes c.watch ≡ text_of app words (codes "watch")
  pub workers : c.workers ≡ number_for app words (codes "workers") 4
  pub quantum : c.quantum ≡ number_for app words (codes "quantum") 1000
  pub bound : c.bound ≡ number_for app words (codes "bound") 1000000
  pub in_range : IsInRange c.workers c.quantum c.bound

-- the options are those that the words name
pub record IsAsked (words : List Text) (o : Options) : Type 0 where
  pub program : option_map string_bytes o.program ≡ text_of kahn_app words (codes "PROGRAM")
  pub input : option_map string_bytes o.input ≡ text_of kahn_app words (codes "input")
  pub config : IsSetBy kahn_app words o.config

-- the number that a text is read as, if it is one of 64 bits; `other` if there is no text
abbrev pub ReadsOr : ℕ → Option Text → ℕ → Type 0
ReadsOr other None n = n ≡ other
ReadsOr other (Some text) n = IsNumeral 10 (without_leading_plus text) → digits_value 10 (without_leading_plus text) < 2 ^ 64 → n ≡ number_or other (Some text)

-- a run is set up by what was found, with `workers` workers by default; the option `limit` has its bound
pub record IsSet (f : Found) (workers : ℕ) (limit : Text) (c : Config) : Type 0 where
  pub threads : ReadsOr workers (one_text f (codes "workers")) c.workers
  pub quantum : ReadsOr 1000 (one_text f (codes "quantum")) c.quantum
  pub bound : ReadsOr 1000000 (one_text f limit) c.bound
  pub watch : option_map string_bytes c.watch ≡ first_value f (codes "watch")

-- an error of the library is reported as refused memory, or as it is
abbrev pub IsTold : Error → LineFault → Type 0
IsTold e fault = ((kind_of e ≡ OutOfMemory) × (fault ≡ NoMemory)) ⊎ ((kind_of e ≢ OutOfMemory) × (fault ≡ Refused e))

-- what the words ask for; or what is at fault in them, such as `--help` and `--version`; or refused memory
abbrev pub IsRead : {O : Type 0} → App → (List Text → O → Type 0) → List Text → Result O LineFault → Type 0
IsRead app Asks words (Ok o) = Asks words o × (fault_of app words ≡ [])
IsRead app Asks words (Err (Refused e)) = IsAmong (kind_of e) (fault_of app words)
IsRead app Asks words (Err NoMemory) = ⊤
