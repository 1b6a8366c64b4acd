-- Believed. A run of the program, from the bytes of the two texts to the bytes that go out, those beside them and the exit status (this project's
-- profile).
use Rattle.std.specs.Prelude.{◌≡◌, ◌⊎◌, ◌++◌, ℕ, Bool, true, false, List, [], Option, Some, None, Result, Ok, Err, codes}
use Rattle.std.specs.Io.KnownBytes.{Appends}
use Rattle.kahn_streams.specs.{Answers.IsUnrun, Inputs.Lists, Written.AppendsFront, Written.Writes, declared.answer.Verdict.TheVariants.Finished, declared.answer.Verdict.TheVariants.Bound, declared.answer.Verdict.TheVariants.Memory, declared.config.Config.Config, declared.fault.RunFault.RunFault, declared.fault.RunFault.TheVariants.NoMemory, declared.tree.Program.Program}
use Rattle.kahn_texts.specs.{Formats.StandsFor, Formats.IsInputTextFault, declared.input.TextFault.TextFault}
use Rattle.kahn_fault.specs.{Status.status_of, Telling.WasWritten, Reasons.reason_line, Telling.told_text, Work.IsChecked, Work.IsUnchecked, declared.fault.Fault.TheVariants.Work, declared.work.WorkFault.WorkFault, declared.work.WorkFault.TheVariants.Syntax, declared.work.WorkFault.TheVariants.Check, declared.work.WorkFault.TheVariants.Text, declared.work.WorkFault.TheVariants.Run, declared.work.WorkFault.TheVariants.Write}
use Rattle.kahn_sequential.specs.{Recordings.IsCountedRun, declared.counted.Counted.Counted, declared.counted.Recorded.Recorded}
use Rattle.kahn_explanation.specs.{Data.HasToldData, Refusing.AreAllowed, Refusing.IsRefusal, Refusing.IsRefusedFor, Telling.HasToldInput, declared.explaining.Came.Came, declared.explaining.Came.TheVariants.Stopped, declared.explaining.Came.TheVariants.Refused, declared.why.told.Finding.Finding}
use Rattle.kahn_explanation.specs.declared.why.told.Finding.TheVariants as told
use Rattle.kahn_explain.specs.{Histories.IsCountedFor, Histories.IsRecordedFor, Needing.AreNeedsTold, Needing.IsUnaskedOf, Untaken.IsToldFor, declared.running.Pipe.Pipe, declared.running.Request.Request, declared.running.Sheet.Sheet, declared.running.Wish.Wish}
use Rattle.kahn_explain.specs.declared.running.Sheet.TheVariants as sheet
use Rattle.kahn_explain.specs.declared.running.Wish.TheVariants as wish

-- what is told beside a table of a run that came to that: its explanation, where the status isn't 0
abbrev pub beside : Finding → List ℕ → List ℕ
beside (told.Stop Finished) text = []
beside x text = text

-- some text went out
abbrev pub HasSentSome : Option (List ℕ) → Option (List ℕ) → Type 0
HasSentSome old new = (text : List ℕ) × Appends old new text

-- a part of a table went out, or a beginning of it
abbrev pub HasPut : {X E : Type 0} → Option (List ℕ) → Option (List ℕ) → Result X E → Type 0
HasPut old new r = (text : List ℕ) × Writes old new r text

-- one writer broke off in its text
abbrev pub BreaksOff : List ℕ → List ℕ → Option (List ℕ) → Option (List ℕ) → Option (List ℕ) → Option (List ℕ) → Type 0
BreaksOff text more out made old new = (AppendsFront out made text × (new ≡ old)) ⊎ (Appends out made text × AppendsFront old new more)

-- rows of needs go out as they are found, until memory is refused
abbrev pub HasBrokenOff : Sheet → RunFault → Option (List ℕ) → Option (List ℕ) → Type 0
HasBrokenOff (sheet.Table counts) f out made = made ≡ out
HasBrokenOff (sheet.Needs wakes) f out made = (made ≡ out) ⊎ ((f ≡ NoMemory) × HasSentSome out made)

-- of these texts
module _ (x : Request) where
  -- ---- why a run stopped, or what is wrong with the texts

  -- the program is allowed, and these are the notes on what is warned of in it
  abbrev pub IsWarned : List ℕ → Type 0
  IsWarned notes = AreAllowed x.path.now x.program.now x.strict notes

  -- why the input text of an allowed program stands for no input
  abbrev pub IsInputless : TextFault → Type 0
  IsInputless f = ((t : Program) × IsChecked x.program.now t × IsInputTextFault t x.input.now f) × ((notes : List ℕ) × IsWarned notes)

  -- what is told: of a run that stopped so, as P says; or why the program text is refused
  abbrev pub TellsOf : (Finding → List ℕ → Type 0) → Came → List ℕ → Type 0
  TellsOf P (Stopped y) text = P y text
  TellsOf P Refused text = IsRefusedFor x.path.now x.program.now x.strict text

  -- That went out; or why not: the first of the faults in this order, after which nothing was written, or of a run that is refused so, behind what U
  -- says; or the writer's, after which a prefix was of that, or of what N says. A fault of the program text is answered where it has no place.
  abbrev pub HasComeTo : (Finding → List ℕ → Type 0) → (RunFault → List ℕ → Type 0) → (List ℕ → Type 0) → Option (List ℕ) → Option (List ℕ) → Result Came WorkFault → Type 0
  HasComeTo P U N old new (Ok came) = (text : List ℕ) × TellsOf P came text × Appends old new text
  HasComeTo P U N old new (Err (Text f)) = IsInputless f × (new ≡ old)
  HasComeTo P U N old new (Err (Run f)) = ((f ≡ NoMemory) × (new ≡ old)) ⊎ ((text : List ℕ) × U f text × Appends old new text)
  HasComeTo P U N old new (Err (Write f)) = (text : List ℕ) × (((came : Came) × TellsOf P came text) ⊎ N text) × AppendsFront old new text
  HasComeTo P U N old new (Err f) = IsUnchecked x.program.now f × IsRefusal x.path.now x.program.now f None × (new ≡ old)

  -- the notes on what is warned of in an allowed program whose input text stands for lists
  abbrev pub AreNotesBefore : Program → Lists → List ℕ → Type 0
  AreNotesBefore t lists notes = IsChecked x.program.now t × StandsFor t x.input.now lists × IsWarned notes

  abbrev pub AreNotes : List ℕ → Type 0
  AreNotes notes = (t : Program) × (lists : Lists) × AreNotesBefore t lists notes

  -- they are the notes before a run that is refused so
  abbrev pub AreNotesOfUnrun : Config → RunFault → List ℕ → Type 0
  AreNotesOfUnrun config f notes = (t : Program) × (lists : Lists) × AreNotesBefore t lists notes × IsUnrun t config f

  -- the notes, and why the run stopped, by its right answer and its counts
  abbrev pub IsToldOf : Config → Finding → List ℕ → Type 0
  IsToldOf config y text = (t : Program) × (lists : Lists) × (run : Counted) × (notes words : List ℕ) × AreNotesBefore t lists notes
      × IsCountedRun t lists config run × IsToldFor t run.answer y words × (text ≡ notes ++ words)

  -- a run was explained
  abbrev pub HasExplained : Config → Option (List ℕ) → Option (List ℕ) → Result Came WorkFault → Type 0
  HasExplained config old new r = HasComeTo (IsToldOf config) (AreNotesOfUnrun config) AreNotes old new r

  -- nothing was run
  abbrev pub IsLookedAt : Finding → List ℕ → Type 0
  IsLookedAt y notes = (y ≡ told.Stop Finished) × AreNotes notes

  abbrev pub HasLooked : Option (List ℕ) → Option (List ℕ) → Result Came WorkFault → Type 0
  HasLooked old new r = HasComeTo IsLookedAt (λ f text. ⊥) (λ text. ⊥) old new r

  -- ---- sheets

  -- what is told beside what is asked for: beside the table of a run that counts what each channel had, or keeps all that is sent, why it stopped
  abbrev pub IsSheet : Sheet → Config → Finding → List ℕ → Type 0
  IsSheet (sheet.Table true) config y more = (t : Program) × (run : Counted) × (words : List ℕ) × IsChecked x.program.now t
      × IsCountedFor t x.input.now config run × IsToldFor t run.answer y words × (more ≡ beside y words)
  IsSheet (sheet.Table false) config y more = (t : Program) × (run : Recorded) × (words : List ℕ) × IsChecked x.program.now t
      × IsRecordedFor t x.input.now config run × IsToldFor t run.answer y words × (more ≡ beside y words)
  IsSheet (sheet.Needs wakes) config y more = AreNeedsTold wakes x.word.now x.program.now x.input.now config y × (more ≡ [])

  -- or it asks for nothing
  abbrev pub IsNoSheet : Sheet → Type 0
  IsNoSheet (sheet.Table counts) = ⊥
  IsNoSheet (sheet.Needs wakes) = IsUnaskedOf wakes x.word.now x.program.now

  -- what goes out, and beside it with the notes; or there why the program text or the word is refused
  abbrev pub Replies : Sheet → Config → Came → List ℕ → List ℕ → Type 0
  Replies kind config (Stopped y) text more = (notes words : List ℕ) × IsWarned notes × IsSheet kind config y words × (more ≡ notes ++ words)
  Replies kind config Refused text more = (text ≡ []) × (IsRefusedFor x.path.now x.program.now x.strict more ⊎ IsNoSheet kind)

  -- That went out; or why not: the first of the faults in this order, after which nothing was written but such rows, or a writer's.
  abbrev pub HasReplied : Sheet → Config → Option (List ℕ) → Option (List ℕ) → Option (List ℕ) → Option (List ℕ) → Result Came WorkFault → Type 0
  HasReplied kind config out made old new (Ok came) = (text more : List ℕ) × Replies kind config came text more × Appends out made text × Appends old new more
  HasReplied kind config out made old new (Err (Text f)) = IsInputless f × (made ≡ out) × (new ≡ old)
  HasReplied kind config out made old new (Err (Run f)) = ((f ≡ NoMemory) ⊎ ((notes : List ℕ) × AreNotesOfUnrun config f notes)) × HasBrokenOff kind f out made × (new ≡ old)
  HasReplied kind config out made old new (Err (Write f)) =
      (came : Came) × (text more : List ℕ) × Replies kind config came text more × BreaksOff text more out made old new
  HasReplied kind config out made old new (Err f) = IsUnchecked x.program.now f × IsRefusal x.path.now x.program.now f None × (made ≡ out) × (new ≡ old)

  -- ---- all of it

  -- why the input text is refused was written, if that has a place; everything else stays what it came to
  abbrev pub IsOrRefused : Result Came WorkFault → Option (List ℕ) → Option (List ℕ) → Result Came WorkFault → Type 0
  IsOrRefused (Err (Text f)) old new r = HasToldInput x.input_path.now x.program.now x.input.now f old new r
  IsOrRefused came old new r = (r ≡ came) × (new ≡ old)

  -- the same as data: the status is that of looking at the texts for a writer whose text is dropped
  abbrev pub HasDoneAsData : Option (List ℕ) → Option (List ℕ) → Result Came WorkFault → Type 0
  HasDoneAsData out made r = (came looked : Result Came WorkFault) × (old mid new : Option (List ℕ)) × HasLooked old mid came × IsOrRefused came mid new looked
      × HasToldData looked out made r

  -- a run was explained; or the texts were looked at, or as data; or a sheet was written, and to the other writer what is told beside it
  abbrev pub HasDone : Wish → Config → Option (List ℕ) → Option (List ℕ) → Option (List ℕ) → Option (List ℕ) → Result Came WorkFault → Type 0
  HasDone wish.Reasons config out made old new r =
      (came : Result Came WorkFault) × (mid : Option (List ℕ)) × HasExplained config out mid came × IsOrRefused came mid made r × (new ≡ old)
  HasDone wish.Look config out made old new r = (came : Result Came WorkFault) × (mid : Option (List ℕ)) × HasLooked out mid came × IsOrRefused came mid made r × (new ≡ old)
  HasDone wish.Data config out made old new r = HasDoneAsData out made r × (new ≡ old)
  HasDone (wish.Sheet kind) config out made old new r =
      (came : Result Came WorkFault) × (mid : Option (List ℕ)) × HasReplied kind config out made old mid came × IsOrRefused came mid new r

-- the fault in the end was told, unless it is that nobody reads any more
abbrev pub IsFaultTold : Bool → List ℕ → Result Came WorkFault → Option (List ℕ) → Option (List ℕ) → Type 0
IsFaultTold gone program (Ok came) old new = new ≡ old
IsFaultTold true program (Err (Write f)) old new = new ≡ old
IsFaultTold false program (Err (Write f)) old new = WasWritten (reason_line (codes "kahn_explain") (codes "report could not be written")) old new
IsFaultTold gone program (Err f) old new = WasWritten (told_text program (Err (Work f))) old new

-- the status for what the explaining came to
abbrev pub end_status : Result Came WorkFault → ℕ
end_status (Ok (Stopped told.Fault)) = 8
end_status (Ok (Stopped told.Deadlock)) = 7
end_status (Ok (Stopped (told.Stop Finished))) = 0
end_status (Ok (Stopped (told.Stop Bound))) = 3
end_status (Ok (Stopped (told.Stop Memory))) = 4
end_status (Ok Refused) = 1
end_status (Err f) = status_of (Err (Work f))

-- the wish was done on the texts, a fault was told, and the status says how it ended
abbrev pub HasExplainedAs : {T : Type 0} → Wish → Request → Config → (T → Option (List ℕ)) → Pipe T → Pipe T → Option (List ℕ) → Option (List ℕ) → ℕ → Type 0
HasExplainedAs w x config written out made old new status =
    (r : Result Came WorkFault) × (mid : Option (List ℕ)) × HasDone x w config (written out.writer) (written made.writer) old mid r
    × IsFaultTold made.gone x.program.now r mid new × (status ≡ end_status r)
