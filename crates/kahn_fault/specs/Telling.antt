-- Believed. What a program reports of its run at the end.
use Rattle.std.specs.Prelude.{ℕ, List, [], ◌∷◌, Option, Some, None, Result, codes}
use Rattle.std.specs.{List.concat, declared.result.Result.TheVariants.Ok, declared.result.Result.TheVariants.Err}
use Rattle.kahn_streams.specs.{declared.answer.Verdict.Verdict, declared.span.Span.Span, Written.Writes}
use Rattle.kahn_texts.specs.declared.bytes.WriteFault.{WriteFault}
use Rattle.kahn_fault.specs.{declared.fault.Fault.Fault, declared.fault.Fault.TheVariants.Work, Message.fault_text, Places.fault_span}

-- this was written, or after a fault of the writer a prefix of it
abbrev pub WasWritten : List ℕ → Option (List ℕ) → Option (List ℕ) → Type 0
WasWritten text old new = (line : Result (Unit {0}) WriteFault) × Writes old new line text

-- which program says more of what has a place in the program text, by the file of that text
abbrev pub explain_line : Option Span → List ℕ → List ℕ
explain_line (Some span) path = concat (codes "kahn_explain " ∷ path ∷ codes " says more\n" ∷ [])
explain_line None path = []

-- the same for a fault
abbrev pub pointer_text : List ℕ → Result Verdict Fault → List ℕ
pointer_text path (Err (Work fault)) = explain_line (fault_span fault) path
pointer_text path answer = []

-- nothing of a run that has a report, and one line of a fault
abbrev pub told_text : List ℕ → Result Verdict Fault → List ℕ
told_text program (Ok verdict) = []
told_text program (Err fault) = fault_text program fault
