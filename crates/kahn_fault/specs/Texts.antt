-- Believed. What reading the texts of a run gives.
use Rattle.std.specs.Prelude.{◌≡◌, ◌≤◌, ◌⊎◌, ℕ, List, [], Option, Some, None, length, string_bytes}
use Rattle.std.specs.declared.{alloc.Global.Global, string.String.String}
use Rattle.kahn_texts.specs.{Formats.most_input_bytes, Reading.IsReadFault}
use Rattle.kahn_fault.specs.{declared.fault.Fault.Fault, declared.texts.Texts.Texts, declared.fault.Fault.TheVariants.Open, declared.fault.Fault.TheVariants.Program, declared.fault.Fault.TheVariants.InputText, declared.fault.Fault.TheVariants.Work}

-- the most bytes of a program text
abbrev pub most_program_bytes : ℕ
most_program_bytes = 1048576

-- why a program text wasn't read, by what came from the reader, and the path that was given
abbrev pub StandsForProgram : Option (String Global) → Option (List ℕ) → Option (List ℕ) → Fault → Type 0
StandsForProgram given old new (Program path fault) = (given ≡ path) × IsReadFault old new most_program_bytes fault
StandsForProgram given old new (Open path) = ⊥
StandsForProgram given old new (InputText path fault) = ⊥
StandsForProgram given old new (Work fault) = ⊥

-- the same for an input text
abbrev pub StandsForInput : String Global → Option (List ℕ) → Option (List ℕ) → Fault → Type 0
StandsForInput given old new (InputText path fault) = (given ≡ path) × IsReadFault old new most_input_bytes fault
StandsForInput given old new (Open path) = ⊥
StandsForInput given old new (Program path fault) = ⊥
StandsForInput given old new (Work fault) = ⊥

-- each text is within its limit, and the input text is empty if no path is given
pub record AreWithin (path : Option (String Global)) (texts : Texts) : Type 0 where
  pub program : length (string_bytes texts.program) ≤ most_program_bytes
  pub input : length (string_bytes texts.input) ≤ most_input_bytes
  pub empty : path ≡ None → string_bytes texts.input ≡ []

-- a fault of the program text names the path that was given; so does a failed read that stands for a secret that the system didn't give
abbrev pub IsOfProgram : Option (String Global) → Fault → Type 0
IsOfProgram given (Open path) = given ≡ Some path
IsOfProgram given (Program path fault) = given ≡ path
IsOfProgram given (InputText path fault) = ⊥
IsOfProgram given (Work fault) = ⊥

-- and so does one of the input text
abbrev pub IsOfInput : Option (String Global) → Fault → Type 0
IsOfInput given (Open path) = given ≡ Some path
IsOfInput given (Program path fault) = ⊥
IsOfInput given (InputText path fault) = given ≡ Some path
IsOfInput given (Work fault) = ⊥

-- a fault of either
abbrev pub IsOfTexts : Option (String Global) → Option (String Global) → Fault → Type 0
IsOfTexts program input fault = IsOfProgram program fault ⊎ IsOfInput input fault
