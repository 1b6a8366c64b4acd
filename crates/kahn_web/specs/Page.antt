-- Believed. What the page gets for its texts, which are bytes.
use Rattle.std.specs.Prelude.{◌≡◌, ◌⊎◌, ℕ, ◌≤◌, ◌<◌, List, [], Option, Some, Result, length, take}
use Rattle.std.specs.{declared.result.Result.TheVariants.Ok, declared.result.Result.TheVariants.Err, Str.IsUtf8}
use Rattle.kahn_streams.specs.{declared.answer.Verdict.Verdict, Written.Writes}
use Rattle.kahn_fault.specs.{declared.fault.Fault.Fault, declared.fault.Fault.TheVariants.Open, declared.fault.Fault.TheVariants.Program, declared.fault.Fault.TheVariants.InputText, declared.fault.Fault.TheVariants.Work, Status.status_of, Work.IsWorked, Telling.told_text}
use Rattle.kahn_texts.specs.declared.bytes.WriteFault.{WriteFault}
use Rattle.kahn_texts.specs.declared.read.ReadFault.{ReadFault}
use Rattle.kahn_texts.specs.declared.read.ReadFault.TheVariants.{Failed, NoMemory, NotUtf8, TooLong}
use Rattle.kahn_web.specs.Alone.{alone}

-- why a program text counts as unread: it isn't UTF-8, or there is no secret for the hashes of its names
abbrev pub IsUnreadAlone : List ℕ → ReadFault → Type 0
IsUnreadAlone program NotUtf8 = IsUtf8 program → ⊥
IsUnreadAlone program Failed = Unit {0}
IsUnreadAlone program TooLong = ⊥
IsUnreadAlone program NoMemory = ⊥

-- what the work by one thread did, or which text isn't UTF-8, after which nothing was written
abbrev pub IsAnswerAlone : List ℕ → List ℕ → ℕ → Option (List ℕ) → Option (List ℕ) → Result Verdict Fault → Type 0
IsAnswerAlone program input bound old new (Ok verdict) = IsWorked program input (alone bound) old new (Ok verdict)
IsAnswerAlone program input bound old new (Err (Open path)) = ⊥
IsAnswerAlone program input bound old new (Err (Program path fault)) = IsUnreadAlone program fault × (new ≡ old)
IsAnswerAlone program input bound old new (Err (InputText path fault)) = (IsUtf8 input → ⊥) × (new ≡ old)
IsAnswerAlone program input bound old new (Err (Work fault)) = IsWorked program input (alone bound) old new (Err fault)

-- the same, with the line of the fault after it, and the status
abbrev pub IsSaidAlone : List ℕ → List ℕ → ℕ → Option (List ℕ) → Option (List ℕ) → ℕ → Type 0
IsSaidAlone program input bound old new status =
    (answer : Result Verdict Fault) × (middle : Option (List ℕ)) × (line : Result (Unit {0}) WriteFault) × IsAnswerAlone program input bound old middle answer × (status ≡ status_of answer) × Writes middle new line (told_text program answer)

-- the bytes are at the front of a room that is large enough, and a smaller one keeps what it has
abbrev pub IsPut : List ℕ → List ℕ → List ℕ → ℕ → Type 0
IsPut bytes old new size = (size ≡ length bytes) × (size ≤ length old → take size new ≡ bytes) × (length old < size → new ≡ old)

-- there is nothing, or such bytes were put into the room
abbrev pub IsPutIf : (List ℕ → Type 0) → List ℕ → List ℕ → ℕ → Type 0
IsPutIf P old new size = ((size ≡ 0) × (new ≡ old)) ⊎ ((bytes : List ℕ) × P bytes × IsPut bytes old new size)

-- what was said of a run was put into the room
abbrev pub IsRunInto : List ℕ → List ℕ → ℕ → List ℕ → List ℕ → ℕ → ℕ → Type 0
IsRunInto program input bound old new status size =
    (written : List ℕ) × IsSaidAlone program input bound (Some []) (Some written) status × IsPut written old new size
