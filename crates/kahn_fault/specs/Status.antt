-- Believed. The status that the program ends with.
use Rattle.std.specs.{Prelude.ℕ, Prelude.zero, Prelude.suc, Prelude.Bool, Prelude.true, Prelude.false, Prelude.Result, declared.result.Result.TheVariants.Ok, declared.result.Result.TheVariants.Err}
use Rattle.kahn_syntax.specs.declared.fault.SyntaxFault.TheVariants as syntax
use Rattle.kahn_streams.specs.declared.fault.CheckFault.TheVariants as checked
use Rattle.kahn_streams.specs.declared.entries.InputFault.TheVariants as input
use Rattle.kahn_streams.specs.{declared.answer.Verdict.Verdict, declared.answer.Verdict.TheVariants.Finished, declared.answer.Verdict.TheVariants.Bound, declared.answer.Verdict.TheVariants.Memory}
use Rattle.kahn_streams.specs.declared.fault.RunFault.TheVariants as run
use Rattle.kahn_texts.specs.declared.input.TextFault.TheVariants as text
use Rattle.kahn_texts.specs.declared.read.ReadFault.{ReadFault}
use Rattle.kahn_texts.specs.declared.read.ReadFault.TheVariants as read
use Rattle.kahn_fault.specs.{declared.work.WorkFault.WorkFault, declared.fault.Fault.Fault, declared.fault.Fault.TheVariants.Open, declared.fault.Fault.TheVariants.Program, declared.fault.Fault.TheVariants.InputText, declared.fault.Fault.TheVariants.Work}
use Rattle.kahn_fault.specs.declared.work.WorkFault.TheVariants as work

-- of a text that wasn't read
abbrev pub read_status : ReadFault → ℕ
read_status read.Failed = 5
read_status read.TooLong = 1
read_status read.NotUtf8 = 5
read_status read.NoMemory = 4

-- of a run without a report
abbrev pub work_status : WorkFault → ℕ
work_status (work.Syntax syntax.NoMemory) = 4
work_status (work.Syntax fault) = 1
work_status (work.Check checked.NoMemory) = 4
work_status (work.Check fault) = 1
work_status (work.Text text.NoMemory) = 4
work_status (work.Text (text.Input input.NoMemory)) = 4
work_status (work.Text fault) = 1
work_status (work.Run run.NoMemory) = 4
work_status (work.Run fault) = 6
work_status (work.Write fault) = 5

-- of an answer
abbrev pub status_of : Result Verdict Fault → ℕ
status_of (Ok Finished) = 0
status_of (Ok Bound) = 3
status_of (Ok Memory) = 4
status_of (Err (Open path)) = 5
status_of (Err (Program path fault)) = read_status fault
status_of (Err (InputText path fault)) = read_status fault
status_of (Err (Work fault)) = work_status fault

-- 1 in place of 0 if a line was refused
abbrev pub with_refused : Bool → ℕ → ℕ
with_refused false status = status
with_refused true zero = 1
with_refused true (suc status) = suc status

-- of an answer to lines, some of which may have been refused
abbrev pub live_status_of : Bool → Result Verdict Fault → ℕ
live_status_of refused answer = with_refused refused (status_of answer)
