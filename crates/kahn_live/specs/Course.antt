-- Believed. What lines make, one after the other, of a session, of what goes out and of what is told (this project's profile).
use Rattle.std.specs.Prelude.{◌≡◌, ◌⊎◌, ℕ, zero, suc, ◌-◌, Bool, true, false, not, ◌||◌, ◌&&◌, ◌==◌, List, [], ◌∷◌, Option, None, Some, codes, decimal, length, slice_index, string_bytes, Result, Ok, Err}
use Rattle.std.specs.{Char.is_ascii_digit, Io.KnownBytes.Appends, Io.KnownBytes.Keeps, Str.bytes_eq, List.before_first, IoError.error_kind, declared.io.Error.Error, declared.io.ErrorKind.TheVariants.BrokenPipe, Io.Buffered.reader_remaining, declared.io.buffered.BufReader.BufReader}
use Rattle.kahn_streams.specs.{declared.answer.End.End, declared.answer.Verdict.Verdict, declared.answer.Verdict.TheVariants.Finished, declared.answer.Verdict.TheVariants.Bound, declared.answer.Verdict.TheVariants.Memory, declared.fault.RunFault.TheVariants.NoMemory as NoMemoryRun, Written.AppendsFront, declared.tree.Program.Program as Tree, declared.value.Failure.Failure}
use Rattle.kahn_texts.specs.{declared.bytes.WriteFault.WriteFault, Formats.content, Formats.process_name, declared.read.ReadFault.TheVariants.Failed as FailedRead}
use Rattle.kahn_sequential.specs.HeldRuns.{HeldRun, IsRightSoFar}
use Rattle.kahn_input_notes.specs.{declared.refused.RefusedPart.RefusedPart, Fitting.line_name, Refused.IsHeadPart, Refused.IsKindPart, Refused.IsValuePart}
use Rattle.kahn_fault.specs.{declared.work.WorkFault.TheVariants.Run as RunWork, declared.work.WorkFault.TheVariants.Write as WriteWork, declared.fault.Fault.Fault, declared.fault.Fault.TheVariants.Program, declared.fault.Fault.TheVariants.Work}
use Rattle.kahn_session.specs.{Live.IsFirstFault, Live.IsFirstInput, Live.IsRinged, Live.IsTakenLine, Live.Live, Live.breaks, Refusals.failure_words, Refusals.is_want, Refusals.like_words, Refusals.origin, Refusals.refused_origin, Refusals.said_text, Refusals.take_words, declared.refusal.Origin.Origin, declared.refusal.Origin.TheVariants.File, declared.refusal.Origin.TheVariants.Line, declared.refusal.TakeFault.TakeFault, declared.refusal.TakeFault.TheVariants.BadLine, declared.refusal.TakeFault.TheVariants.BadValue, declared.refusal.TakeFault.TheVariants.Feed, declared.refusal.TakeFault.TheVariants.NoMemory}
use Rattle.kahn_explanation.specs.Why.{AreCauses}
use Rattle.kahn_live.specs.{declared.taking.LiveStage.LiveStage, declared.telling.Teller.Teller}
use Rattle.kahn_streams.specs.declared.feeds.FeedFault.TheVariants as feed

-- what is told on standard error; lines that are refused in a row for one reason are told of by the first, and by how many they are more
pub record LiveTelling : Type 0 where
  pub bytes : Option (List ℕ)
  -- whether a write failed: then not all that is told stands there
  pub failed : Bool
  -- whether a refused line leaves the status as it is, if it isn't lost for want of memory, and whether one counts
  pub keep_going : Bool
  pub refused : Bool
  -- the program's file
  pub path : List ℕ
  -- why the last line that was refused was
  pub last : Option TakeFault
  -- the number of the one that was told, and that of the last one
  pub first : ℕ
  pub number : ℕ
  -- whether it was told how bare numbers are taken; that a line wants more events than a part may do; that the part of a line waits for memory;
  -- that a process has a fault; and that processes wait on one another in a ring
  pub hinted : Bool
  pub stepped : Bool
  pub waited : Bool
  pub faulted : Bool
  pub ringed : Bool

abbrev pub telling_of : {E : Type 0} → (E → Option (List ℕ)) → Teller E → LiveTelling
telling_of contents t = record {
  bytes = contents t.errors;
  failed = t.failed;
  keep_going = t.keep_going;
  refused = t.refused;
  path = string_bytes t.path;
  last = t.last;
  first = t.first;
  number = t.number;
  hinted = t.hinted;
  stepped = t.stepped;
  waited = t.waited;
  faulted = t.faulted;
  ringed = t.ringed;
}

-- a session, the bytes that were written for it, and what is told
pub record Point : Type 0 where
  pub session : Live
  pub out : Option (List ℕ)
  pub told : LiveTelling

abbrev pub point_of : {W E : Type 0} → (W → Option (List ℕ)) → (E → Option (List ℕ)) → LiveStage W E → Point
point_of written said s = record { session = s.session; out = written s.outlet.writer; told = telling_of said s.teller }

-- this holds of what a reader has left, and of the points, before and after
abbrev pub Across : {I A W E : Type 0} → (I → Option (List ℕ)) → (W → Option (List ℕ)) → (E → Option (List ℕ)) → BufReader I A → BufReader I A
    → LiveStage W E → LiveStage W E → (Option (List ℕ) → Option (List ℕ) → Point → Point → Type 0) → Type 0
Across left written said before after old new holds =
    holds (reader_remaining left before) (reader_remaining left after) (point_of written said old) (point_of written said new)

-- the same, whatever is left after
abbrev pub Through : {I A W E : Type 0} → (I → Option (List ℕ)) → (W → Option (List ℕ)) → (E → Option (List ℕ)) → BufReader I A → LiveStage W E → LiveStage W E
    → (Option (List ℕ) → Point → Point → Type 0) → Type 0
Through left written said before old new holds = holds (reader_remaining left before) (point_of written said old) (point_of written said new)

-- this holds of the points
abbrev pub AcrossStage : {W E : Type 0} → (W → Option (List ℕ)) → (E → Option (List ℕ)) → LiveStage W E → LiveStage W E → (Point → Point → Type 0) → Type 0
AcrossStage written said old new holds = holds (point_of written said old) (point_of written said new)

-- the text was told, or after a fault of the writer a prefix of it; nothing else changed
pub record WasTold (text : List ℕ) (old new : LiveTelling) : Type 0 where
  pub front : AppendsFront old.bytes new.bytes text
  pub whole : new.failed ≡ false → (old.failed ≡ false) × Appends old.bytes new.bytes text
  pub rest : new ≡ record old { bytes = new.bytes; failed = new.failed }

-- this was told behind the program's file: where it comes from, words, a part of a line, and more words
abbrev pub WasSaid : Origin → List ℕ → List ℕ → List (List ℕ) → LiveTelling → LiveTelling → Type 0
WasSaid from words part more old new = WasTold (said_text old.path (origin from) words part more) old new

-- that so many lines more were refused was told, where there are any
abbrev pub AreLikeTold : ℕ → LiveTelling → LiveTelling → Type 0
AreLikeTold zero old new = new ≡ old
AreLikeTold (suc n) old new = WasSaid File (codes "and ") [] (decimal (suc n) ∷ like_words (suc n) ∷ []) old new

-- how many were refused behind the one that was told of was told
abbrev pub IsMoreTold : LiveTelling → LiveTelling → Type 0
IsMoreTold old new = AreLikeTold (old.number - old.first) (record old { first = old.number }) new

-- ---- a line that is refused

-- whether a fault is told in the words of another
abbrev pub is_alike : Option TakeFault → TakeFault → Bool
is_alike None f = false
is_alike (Some g) f = bytes_eq (take_words g) (take_words f)

-- whether a number is the next one
abbrev pub is_next : ℕ → ℕ → Bool
is_next number before = not (number == 0) && number - 1 == before

-- whether the line of this number is refused as the one before it, and nothing more is to be said of it
abbrev pub is_again : LiveTelling → ℕ → TakeFault → Option (List ℕ) → Bool
is_again k number f None = is_next number k.number && is_alike k.last f
is_again k number f (Some hint) = false

-- what is known behind one line more that was refused: it counts, but not where refused lines leave the status as it is, unless it was lost
-- for want of memory
abbrev pub tallied : ℕ → TakeFault → LiveTelling → LiveTelling
tallied number f k = record k { refused = k.refused || (not k.keep_going || is_want f); number = number }

-- it was counted, and nothing was told
abbrev pub IsTallied : ℕ → TakeFault → LiveTelling → LiveTelling → Type 0
IsTallied number f old new = new ≡ tallied number f old

-- how bare numbers are taken was told, where an input channel is named
abbrev pub IsHintTold : Option (List ℕ) → LiveTelling → LiveTelling → Type 0
IsHintTold None old new = new ≡ old
IsHintTold (Some input) old new = WasSaid File (codes "bare numbers are taken with --plain ") [] (input ∷ []) (record old { hinted = true }) new

-- why the line was refused was told, with a part of it and more words, behind how many lines more were refused as the one before it
abbrev pub IsNextTold : ℕ → TakeFault → RefusedPart → Option (List ℕ) → LiveTelling → LiveTelling → Type 0
IsNextTold number f part hint old new = (mid : LiveTelling) × (last : LiveTelling) × IsMoreTold old mid
    × WasSaid (refused_origin number f) (take_words f) part.word.now (part.words.now ∷ []) (record (tallied number f mid) { last = Some f; first = number }) last
    × IsHintTold hint last new

-- the part of the line that is at fault, with whatever words of what is wanted there; or neither
abbrev pub IsRefusedPart : Tree → List ℕ → TakeFault → List ℕ → List ℕ → Type 0
IsRefusedPart t line BadLine part more = IsHeadPart (content line) part more
IsRefusedPart t line BadValue part more = IsValuePart (content line) part more
IsRefusedPart t line (Feed feed.UnknownName) part more = part ≡ line_name (content line)
IsRefusedPart t line (Feed feed.NotAnInput) part more = part ≡ line_name (content line)
IsRefusedPart t line (Feed feed.WrongKind) part more = IsKindPart t (content line) part more
IsRefusedPart t line f part more = (part ≡ []) × (more ≡ [])

-- whether a line begins as a number does
abbrev pub is_bare : List ℕ → Bool
is_bare line = is_ascii_digit (slice_index line 0) || slice_index line 0 == 45

-- whether it is told now how bare numbers are taken: once, where one is refused, or the line of number 0, which names a channel alone
abbrev pub wants_hint : Bool → ℕ → List ℕ → TakeFault → Bool
wants_hint true number line f = false
wants_hint false number line BadLine = number == 0 || is_bare line
wants_hint false number line f = number == 0 && not (is_want f)

-- the input channel that is named in that
abbrev pub IsHintBy : Bool → Live → Option (List ℕ) → Type 0
IsHintBy true s hint = IsFirstInput s.flow.run.network hint
IsHintBy false s hint = hint ≡ None

-- the line was counted; or it was told of
abbrev pub IsComplaint : Live → ℕ → List ℕ → TakeFault → Option (List ℕ) → Bool → LiveTelling → LiveTelling → Type 0
IsComplaint s number line f hint true old new = IsTallied number f old new
IsComplaint s number line f hint false old new =
    (part : RefusedPart) × IsRefusedPart s.flow.run.network line f part.word.now part.words.now × IsNextTold number f part hint old new

-- the line that was fed was refused, and that was told
abbrev pub IsRefused : Live → ℕ → List ℕ → TakeFault → LiveTelling → LiveTelling → Type 0
IsRefused s number line f old new =
    (hint : Option (List ℕ)) × IsHintBy (wants_hint old.hinted number line f) s hint × IsComplaint s number line f hint (is_again old number f hint) old new

-- what was put off may have been sent: no byte more was written
abbrev pub HasWaited : Point → Point → Type 0
HasWaited old new = (new.session ≡ old.session) × Keeps old.out new.out

-- and nothing was told
abbrev pub HasSent : Point → Point → Type 0
HasSent old new = (new.told ≡ old.told) × HasWaited old new

-- whether something of its verdict is told now of the part of a line: each once in a run, and of an empty line, which lets a run go on, not
-- that it wants more events
abbrev pub is_verdict_new : LiveTelling → List ℕ → Verdict → Bool
is_verdict_new k line Finished = false
is_verdict_new k line Bound = not (length line == 0) && not k.stepped
is_verdict_new k line Memory = not k.waited

-- it was told where it is new
abbrev pub IsVerdictTold : ℕ → Bool → Verdict → LiveTelling → LiveTelling → Type 0
IsVerdictTold number false v old new = new ≡ old
IsVerdictTold number true Finished old new = new ≡ old
IsVerdictTold number true Bound old new =
    WasSaid (Line number) (codes "wants more events than --step allows, and goes on with the next line") [] [] (record old { stepped = true }) new
IsVerdictTold number true Memory old new = WasSaid (Line number) (codes "waits for memory") [] [] (record old { waited = true }) new

-- the first process that has a fault after the part, unless it was told before that one has: once in a run
abbrev pub IsNewFault : Bool → HeldRun → Option (ℕ × Failure) → Type 0
IsNewFault true h first = first ≡ None
IsNewFault false h first = IsFirstFault h first

-- that it has one was told: its number from 1, its name, and which fault
abbrev pub IsFaultPut : ℕ → Tree → Option (ℕ × Failure) → LiveTelling → LiveTelling → Type 0
IsFaultPut number t None old new = new ≡ old
IsFaultPut number t (Some (instance, kind)) old new =
    WasSaid (Line number) (decimal instance) [] (codes " " ∷ process_name t (instance - 1) ∷ failure_words kind ∷ []) (record old { faulted = true }) new

-- these words tell what came of the run and its causes; none do where it finished without a fault and a ring
abbrev pub AreCausesOf : HeldRun → List ℕ → Type 0
AreCausesOf h words = (v : Verdict) × (ends : List End) × (h.verdict ≡ Some v) × IsRightSoFar h v ends × AreCauses h.network v ends words

-- the first of several lines
abbrev pub first_line : List ℕ → List ℕ
first_line lines = before_first (λ b. b == 10) lines

-- that processes wait on one another in a ring was told, where they do and it wasn't told before; or nothing was
abbrev pub IsRingTold : ℕ → HeldRun → LiveTelling → LiveTelling → Type 0
IsRingTold number h old new = (new ≡ old) ⊎ ((old.ringed ≡ false) × IsRinged h true
    × ((words : List ℕ) × AreCausesOf h words × WasSaid (Line number) (first_line words) [] [] (record old { ringed = true }) new))

-- what is told of the part of a line: its verdict, then a fault, and then a ring
abbrev pub IsPartTold : Live → ℕ → List ℕ → Verdict → LiveTelling → LiveTelling → Type 0
IsPartTold s number line v old new = (first : Option (ℕ × Failure)) × (mid : LiveTelling) × (late : LiveTelling) × IsNewFault old.faulted s.flow.run first
    × IsVerdictTold number (is_verdict_new old line v) v old mid × IsFaultPut number s.flow.run.network first mid late
    × IsRingTold number s.flow.run late new

-- what is told of a line with this answer
abbrev pub IsToldBy : Live → ℕ → List ℕ → Result Verdict TakeFault → LiveTelling → LiveTelling → Type 0
IsToldBy s number line (Ok v) old new = IsPartTold s number line v old new
IsToldBy s number line (Err f) old new = IsRefused s number line f old new × (breaks f ≡ false)

-- what the session made of the line; what is new may have been sent
abbrev pub WasFed : List ℕ → Result Verdict TakeFault → Point → Point → Type 0
WasFed line answer old new = (sent : Option (List ℕ)) × IsTakenLine line old.session new.session old.out sent answer × Keeps sent new.out

-- the line was taken or refused, and what is to be told of it was
abbrev pub WasMet : ℕ → List ℕ → Result Verdict TakeFault → Point → Point → Type 0
WasMet number line answer old new =
    IsToldBy new.session number line answer old.told new.told × WasFed line answer old new

-- memory was refused for the line, and that was told
abbrev pub HasMissed : ℕ → Point → Point → Type 0
HasMissed number old new = IsRefused new.session number [] NoMemory old.told new.told × HasWaited old new

-- the line was taken or refused
abbrev pub WasAnswered : ℕ → List ℕ → Point → Point → Type 0
WasAnswered number line old new = (answer : Result Verdict TakeFault) × WasMet number line answer old new

-- ---- why a run breaks off

abbrev pub IsGone : {X : Type 0} → Result X Error → Type 0
IsGone (Ok x) = ⊥
IsGone (Err e) = error_kind e ≡ BrokenPipe

abbrev pub IsWriteFault : Fault → Type 0
IsWriteFault fault = (f : WriteFault) × (fault ≡ Work (WriteWork f))

abbrev pub IsReadFailed : Fault → Type 0
IsReadFailed fault = fault ≡ Program None FailedRead

-- memory was refused
abbrev pub no_memory : Fault
no_memory = Work (RunWork NoMemoryRun)

-- what is new after the line, or what was put off, couldn't be written: nothing is told of the line
abbrev pub IsBrokenOff : List ℕ → Point → Point → Fault → Type 0
IsBrokenOff line old new fault = IsWriteFault fault × (new.told ≡ old.told)
    × (HasWaited old new ⊎ ((answer : Result Verdict TakeFault) × WasFed line answer old new))

-- ---- one line

-- a fault of the line is told behind what is new
abbrev pub IsRefusalTold : {X : Type 0} → ℕ → List ℕ → TakeFault → Point → Point → Result X Fault → Type 0
IsRefusalTold number line f old new (Ok x) = IsRefused new.session number line f old.told new.told × HasWaited old new
IsRefusalTold number line f old new (Err fault) = IsWriteFault fault × HasSent old new

-- what is told of its part stands behind what is new
abbrev pub IsPartMet : {X : Type 0} → ℕ → List ℕ → Verdict → Point → Point → Result X Fault → Type 0
IsPartMet number line v old new (Ok x) = IsPartTold new.session number line v old.told new.told × HasWaited old new
IsPartMet number line v old new (Err fault) = IsWriteFault fault × HasSent old new

-- what is told of a line by its answer
abbrev pub IsAnswerTold : ℕ → List ℕ → Result Verdict TakeFault → Point → Point → Result (Option TakeFault) Fault → Type 0
IsAnswerTold number line answer old new (Ok None) = ((v : Verdict) × (answer ≡ Ok v)) × IsToldBy new.session number line answer old.told new.told × HasWaited old new
IsAnswerTold number line answer old new (Ok (Some f)) = (answer ≡ Err f) × IsToldBy new.session number line answer old.told new.told × HasWaited old new
IsAnswerTold number line answer old new (Err fault) = IsWriteFault fault × HasSent old new

-- a line is told of by its refusal, where it was refused
abbrev pub IsLineMet : ℕ → List ℕ → Point → Point → Result (Option TakeFault) Fault → Type 0
IsLineMet number line old new (Ok None) = (v : Verdict) × WasMet number line (Ok v) old new
IsLineMet number line old new (Ok (Some f)) = WasMet number line (Err f) old new
IsLineMet number line old new (Err fault) = IsBrokenOff line old new fault

-- a line of the input that isn't a row; memory may have been refused for it
abbrev pub IsAloneMet : ℕ → List ℕ → Point → Point → Result (Option TakeFault) Fault → Type 0
IsAloneMet number line old new (Ok r) = IsLineMet number line old new (Ok r) ⊎ ((r ≡ Some NoMemory) × HasMissed number old new)
IsAloneMet number line old new (Err fault) = IsBrokenOff line old new fault
