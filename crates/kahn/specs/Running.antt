-- Believed. A run of the program, from the bytes of the two texts to the bytes that go out and the exit status (this project's profile).
use Rattle.std.specs.Prelude.{◌≡◌, ℕ, List, Option, Result, Ok, Err, IfOk, string_bytes}
use Rattle.kahn_streams.specs.{declared.config.Config.Config, Written.Writes, declared.answer.Verdict.Verdict}
use Rattle.kahn_fault.specs.{Work.FinishesWithin, Work.IsWorked, declared.work.WorkFault.WorkFault, Status.status_of, Telling.told_text, declared.fault.Fault.Fault, declared.fault.Told.Told, declared.texts.Texts.Texts, declared.fault.Fault.TheVariants.Work}

-- the result of the run of two texts that were read
abbrev pub run_answer : Result Verdict WorkFault → Result Verdict Fault
run_answer (Ok verdict) = Ok verdict
run_answer (Err fault) = Err (Work fault)

-- the whole work was done on the texts; its fault, if there is one, went out to the writer of faults, as far as that took it; and the
-- status says how it ended
abbrev pub HasRunTexts : Texts → Config → Option (List ℕ) → Option (List ℕ) → Option (List ℕ) → Option (List ℕ) → Told → Type 0
HasRunTexts texts config old new untold told answer =
    let program = string_bytes texts.program in
    let input = string_bytes texts.input in
    (r : Result Verdict WorkFault) × IsWorked program input config old new r × IfOk r (FinishesWithin program input config)
    × Writes untold told answer.line (told_text program (run_answer r)) × (answer.status ≡ status_of (run_answer r))
