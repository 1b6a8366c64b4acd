-- Believed. What a program says if it can't read a text: no path drives a terminal.
use Rattle.std.specs.Prelude.{◌≡◌, ◌⊎◌, ℕ, List, [], Option, Some, None, Result, string_bytes}
use Rattle.std.specs.declared.{alloc.Global.Global, string.String.String}
use Rattle.kahn_streams.specs.Written.{Writes}
use Rattle.kahn_texts.specs.{Shown.shown_text, declared.bytes.WriteFault.WriteFault}
use Rattle.kahn_fault.specs.{Message.fault_text, Reasons.reason_line, Telling.WasWritten, declared.fault.Fault.Fault, declared.fault.Fault.TheVariants.Open, declared.fault.Fault.TheVariants.Program, declared.fault.Fault.TheVariants.InputText, declared.fault.Fault.TheVariants.Work}

-- a path as it is shown, or nothing if memory is refused for it
abbrev pub IsShownPath : String Global → String Global → Type 0
IsShownPath path shown = (string_bytes shown ≡ shown_text (string_bytes path)) ⊎ (string_bytes shown ≡ [])

-- the same of a path that may be missing
abbrev pub IsShownIf : Option (String Global) → Option (String Global) → Type 0
IsShownIf None shown = shown ≡ None
IsShownIf (Some path) shown = (q : String Global) × IsShownPath path q × (shown ≡ Some q)

-- the same fault, with its path as it is shown
abbrev pub IsShownFault : Fault → Fault → Type 0
IsShownFault (Open path) shown = (q : String Global) × IsShownPath path q × (shown ≡ Open q)
IsShownFault (Program path fault) shown = (q : Option (String Global)) × IsShownIf path q × (shown ≡ Program q fault)
IsShownFault (InputText path fault) shown = (q : String Global) × IsShownPath path q × (shown ≡ InputText q fault)
IsShownFault (Work fault) shown = shown ≡ Work fault

-- the line of the fault was written, with its path as it is shown
abbrev pub IsShownLine : Fault → Option (List ℕ) → Option (List ℕ) → Result (Unit {0}) WriteFault → Type 0
IsShownLine fault old new line = (shown : Fault) × IsShownFault fault shown × Writes old new line (fault_text [] shown)

-- after it came a line with a reason and the name of the program, or none
abbrev pub IsUnreadLine : List ℕ → Fault → Option (List ℕ) → Option (List ℕ) → Result (Unit {0}) WriteFault → Type 0
IsUnreadLine name fault old new line =
    (mid : Option (List ℕ)) × IsShownLine fault old mid line × ((mid ≡ new) ⊎ ((reason : List ℕ) × WasWritten (reason_line name reason) mid new))
