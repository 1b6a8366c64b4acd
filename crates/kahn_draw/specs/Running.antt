-- Believed. A run of the program, from the bytes of the two texts to the bytes that go out and the exit status (this project's profile).
use Rattle.std.specs.Prelude.{◌≡◌, ℕ, List, [], Option, Some, None, Result, Ok, Err, codes, string_bytes}
use Rattle.kahn_streams.specs.{Written.Writes, declared.answer.Verdict.Verdict, declared.answer.Verdict.TheVariants.Finished, declared.answer.Verdict.TheVariants.Memory}
use Rattle.kahn_fault.specs.{declared.work.WorkFault.WorkFault, declared.work.WorkFault.TheVariants.Write, Status.status_of, Telling.pointer_text, Reasons.reason_line, Telling.told_text, declared.fault.Fault.Fault, declared.fault.Fault.TheVariants.Work, declared.texts.Texts.Texts}
use Rattle.kahn_draw.specs.{Drawing.IsDrawn, declared.drawing.Drawn.Drawn, declared.drawing.DrawingTold.DrawingTold}

-- what drawing came to, in the words of a run: one that its bound stopped was drawn as far as it was asked for
abbrev pub drawn_answer : Result Verdict WorkFault → Result Verdict Fault
drawn_answer (Ok Memory) = Ok Memory
drawn_answer (Ok v) = Ok Finished
drawn_answer (Err fault) = Err (Work fault)

-- the line on it: of a picture that wasn't written, and of one of a run that memory stopped, by the program's own name
abbrev pub drawing_text : List ℕ → Result Verdict Fault → List ℕ
drawing_text program (Ok Memory) = reason_line (codes "kahn_draw") (codes "run was stopped by memory")
drawing_text program (Err (Work (Write f))) = reason_line (codes "kahn_draw") (codes "picture could not be written")
drawing_text program r = told_text program r

-- which program says more, if the program text has a path
abbrev pub pointed_text : Option (List ℕ) → Result Verdict Fault → List ℕ
pointed_text (Some path) answer = pointer_text path answer
pointed_text None answer = []

-- the picture was drawn; then went out, as far as the answer says, a line of a fault and one that says which program says more; and the status
-- says how it ended
abbrev pub HasDrawnAs : Texts → Option (List ℕ) → Drawn → Option (List ℕ) → Option (List ℕ) → Option (List ℕ) → Option (List ℕ) → DrawingTold → Type 0
HasDrawnAs texts path drawn out made old new answer =
    let program = string_bytes texts.program in
    (r : Result Verdict WorkFault) × (last : Option (List ℕ)) × IsDrawn program (string_bytes texts.input) drawn out made r
    × Writes old last answer.fault.line (drawing_text program (drawn_answer r)) × Writes last new answer.pointer (pointed_text path (drawn_answer r))
    × (answer.fault.status ≡ status_of (drawn_answer r))
