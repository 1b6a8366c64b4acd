-- Believed. All lines of a run: the part before them, those of the input, and those behind these (this project's profile).
use Rattle.std.specs.Prelude.{◌≡◌, ◌⊎◌, ⊤, ℕ, zero, suc, ◌-◌, ◌^◌, ◌==◌, ◌&&◌, not, length, Bool, true, false, List, [], ◌∷◌, codes, map, take, Option, None, Some, Result, Ok, Err, string_bytes}
use Rattle.std.specs.{Io.KnownBytes.IsAtEnd, Io.KnownBytes.Keeps, declared.alloc.Global.Global, declared.string.String.String}
use Rattle.kahn_streams.specs.{declared.answer.Verdict.Verdict, declared.answer.Verdict.TheVariants.Finished, declared.answer.Verdict.TheVariants.Memory}
use Rattle.kahn_fault.specs.declared.fault.Fault.{Fault}
use Rattle.kahn_texts.specs.declared.bytes.WriteFault.{WriteFault}
use Rattle.kahn_session.specs.{Live.HasFedLine, Live.HasRunPart, Live.IsDeafNow, Live.IsFirstInput, Live.IsHearing, Live.IsMeantLine, Live.IsOtherInput, Live.IsPartShown, Live.IsUnfedBy, Live.Live, Refusals.at_end_number, Refusals.is_want, declared.refusal.TakeFault.TakeFault, declared.refusal.Origin.TheVariants.File}
use Rattle.kahn_live.specs.{Lines.CutsLine, Lines.fed_text, Lines.most_kept, Lines.unmarked, declared.lines.Next.Next, declared.lines.Next.TheVariants.Line, declared.lines.Next.TheVariants.End, declared.lines.Next.TheVariants.Failed, declared.lines.Next.TheVariants.NoMemory, Rows.AreMeant, Rows.AreRowCells, Rows.IsBadRow, Rows.bare_of, Rows.row_names}
use Rattle.kahn_live.specs.Course.{HasMissed, HasSent, HasWaited, IsAloneMet, IsBrokenOff, IsPartTold, IsReadFailed, IsRefused, IsWriteFault, LiveTelling, Point, WasAnswered, WasSaid, no_memory}

-- ---- a row

-- these lines were fed in their order, and no part was run
abbrev pub AreFedIn : List (List ℕ) → Live → Live → Type 0
AreFedIn [] old new = new ≡ old
AreFedIn (line ∷ lines) old new = (next : Live) × HasFedLine line old next × AreFedIn lines next new

-- the first ones were, and this one behind them was refused
abbrev pub AreFedUpTo : List (List ℕ) → List ℕ → TakeFault → Live → Live → Type 0
AreFedUpTo [] cell f old new = ⊥
AreFedUpTo (line ∷ lines) cell f old new =
    ((line ≡ cell) × (new ≡ old) × IsUnfedBy cell old.flow f) ⊎ ((next : Live) × HasFedLine line old next × AreFedUpTo lines cell f next new)

-- all were fed, a part was run, and what is to be told of it was; what is new may have been sent
abbrev pub IsRowRun : ℕ → List ℕ → List (List ℕ) → Verdict → Point → Point → Type 0
IsRowRun number names cells v old new = IsPartTold new.session number names v old.told new.told
    × ((fed : Live) × (sent : Option (List ℕ)) × AreFedIn cells old.session fed × HasRunPart fed new.session old.out sent v × Keeps sent new.out)

-- or what is new after them couldn't be written: nothing is told of the row
abbrev pub IsRowBroken : List (List ℕ) → Point → Point → Fault → Type 0
IsRowBroken cells old new fault = IsWriteFault fault × (new.told ≡ old.told)
    × ((fed : Live) × (sent : Option (List ℕ)) × (answer : Result Verdict WriteFault)
    × AreFedIn cells old.session fed × IsPartShown fed new.session old.out sent answer × Keeps sent new.out)

-- or one of them was refused, and that was told or couldn't be: the run ends, since those before it were fed
abbrev pub IsTornOff : ℕ → List (List ℕ) → Point → Point → Fault → Type 0
IsTornOff number cells old new fault = (cell : List ℕ) × (f : TakeFault) × AreFedUpTo cells cell f old.session new.session × Keeps old.out new.out
    × ((IsRefused new.session number cell f old.told new.told × (fault ≡ no_memory)) ⊎ (IsWriteFault fault × (new.told ≡ old.told)))

abbrev pub AreCellsFed : {X : Type 0} → ℕ → List (List ℕ) → Point → Point → Result X Fault → Type 0
AreCellsFed number cells old new (Ok x) = AreFedIn cells old.session new.session × (new.out ≡ old.out) × (new.told ≡ old.told)
AreCellsFed number cells old new (Err fault) = IsTornOff number cells old new fault

abbrev pub AreCellsMet : {X : Type 0} → ℕ → List ℕ → List (List ℕ) → Point → Point → Result X Fault → Type 0
AreCellsMet number names cells old new (Ok x) = (v : Verdict) × IsRowRun number names cells v old new
AreCellsMet number names cells old new (Err fault) = IsRowBroken cells old new fault ⊎ IsTornOff number cells old new fault

-- a row was taken whole, or no value of it was, and the reason was told; or it stopped the run
abbrev pub IsRowMet : List ℕ → ℕ → List ℕ → Point → Point → Result (Option TakeFault) Fault → Type 0
IsRowMet names number row old new (Ok None) =
    (cells : List (List ℕ)) × AreRowCells old.session names row cells × ((v : Verdict) × IsRowRun number names cells v old new)
IsRowMet names number row old new (Ok (Some f)) =
    (cell : List ℕ) × IsBadRow old.session names row f cell × IsRefused new.session number cell f old.told new.told × HasWaited old new
IsRowMet names number row old new (Err fault) = (IsWriteFault fault × HasSent old new)
    ⊎ ((cells : List (List ℕ)) × AreRowCells old.session names row cells × (IsRowBroken cells old new fault ⊎ IsTornOff number cells old new fault))

-- ---- a line of the input

abbrev pub IsReadIn : Option (List ℕ) → Option (List ℕ) → ℕ → List ℕ → Point → Point → Result (Option TakeFault) Fault → Type 0
IsReadIn (Some names) input number line old new r = IsRowMet names number line old new r
IsReadIn None input number line old new r = IsAloneMet number (fed_text input line) old new r

-- whether the last part has finished
abbrev pub has_finished : Option Verdict → Bool
has_finished (Some Finished) = true
has_finished v = false

-- whether a line of the input changes nothing: an empty one, where the run has finished
abbrev pub is_idle : ℕ → List ℕ → Option Verdict → Bool
is_idle number line v = (not (number == 0) && length line == 0) && has_finished v

abbrev pub IsReadBy : Bool → Option (List ℕ) → ℕ → List ℕ → Point → Point → Result (Option TakeFault) Fault → Type 0
IsReadBy true input number line old new r = (r ≡ Ok None) × (new ≡ old)
IsReadBy false input number line old new r = IsReadIn (row_names input) input number line old new r

-- a line of which this was kept: a row, where several channels are named
abbrev pub IsReadMet : Option (List ℕ) → ℕ → List ℕ → Point → Point → Result (Option TakeFault) Fault → Type 0
IsReadMet input number kept old new r = IsReadBy (is_idle number (unmarked number kept) old.session.flow.run.verdict) input number (unmarked number kept) old new r

-- a line of the input, of which no more is kept than decides that it is too long: it was taken or refused, for want of memory too
abbrev pub IsAnyMet : Option (List ℕ) → ℕ → List ℕ → Point → Point → Type 0
IsAnyMet input number line old new = ((r : Option TakeFault) × IsReadMet input number (take most_kept line) old new (Ok r)) ⊎ HasMissed number old new

-- ---- the lines of the input

-- whether the program has no input channel: then no line is read, and the run goes on by blank ones
abbrev pub IsSource : Live → Bool → Type 0
IsSource s true = IsFirstInput s.flow.run.network None
IsSource s false = (name : List ℕ) × IsFirstInput s.flow.run.network (Some name)

-- whether memory was refused for the last part
abbrev pub lacks_memory : Option Verdict → Bool
lacks_memory (Some Memory) = true
lacks_memory v = false

-- the line that comes next, behind which this is left
abbrev pub IsNextCome : Live → List ℕ → Option (List ℕ) → Option (List ℕ) → Type 0
IsNextCome s line text rest = (IsSource s false × CutsLine line text rest)
    ⊎ (IsSource s true × (lacks_memory s.flow.run.verdict ≡ false) × (line ≡ []) × (rest ≡ text))

-- none does: the input is at its end, or there is none and memory was refused
abbrev pub IsNoneCome : Live → Option (List ℕ) → Type 0
IsNoneCome s text = (IsSource s false × IsAtEnd text) ⊎ (IsSource s true × (lacks_memory s.flow.run.verdict ≡ true))

-- what came: a line, of which no more is kept than decides whether it is too long, or none
abbrev pub IsCome : Live → Option (List ℕ) → Option (List ℕ) → List ℕ → Next → Type 0
IsCome s text rest kept Line = (line : List ℕ) × IsNextCome s line text rest × (kept ≡ take most_kept line)
IsCome s text rest kept End = IsNoneCome s text
IsCome s text rest kept Failed = ⊤
IsCome s text rest kept NoMemory = (line : List ℕ) × IsNextCome s line text rest

-- the line of this number came, behind which this is left, and was met
abbrev pub IsStep : Option (List ℕ) → ℕ → Option (List ℕ) → Option (List ℕ) → Point → Point → Type 0
IsStep input number text rest old new =
    (line : List ℕ) × (ready : Point) × IsNextCome old.session line text rest × HasSent old ready × IsAnyMet input number line ready new

-- it wasn't read, or it is the last, since nothing can be written
abbrev pub IsStoppedAt : Option (List ℕ) → ℕ → Option (List ℕ) → Point → Point → Fault → Type 0
IsStoppedAt input number text old new fault =
    (HasSent old new × (IsWriteFault fault ⊎ IsReadFailed fault))
    ⊎ ((line : List ℕ) × (rest : Option (List ℕ)) × (ready : Point) × IsNextCome old.session line text rest × HasSent old ready
    × IsReadMet input number (take most_kept line) ready new (Err fault))

-- whether there was a line
abbrev pub IsNextMet : Option (List ℕ) → ℕ → Result Bool Fault → Option (List ℕ) → Option (List ℕ) → Point → Point → Type 0
IsNextMet input number (Ok true) text rest old new = IsStep input number text rest old new
IsNextMet input number (Ok false) text rest old new = IsNoneCome old.session text × HasSent old new
IsNextMet input number (Err fault) text rest old new = IsStoppedAt input number text old new fault

-- the first lines, as many as these, were read and met in their order, each while it could change the run
abbrev pub AreRead : Option (List ℕ) → ℕ → Option (List ℕ) → Option (List ℕ) → Point → Point → Type 0
AreRead input zero text rest old new = (rest ≡ text) × (new ≡ old)
AreRead input (suc n) text rest old new =
    (left : Option (List ℕ)) × (last : Point) × AreRead input n text left old last × IsHearing last.session × IsStep input (suc n) left rest last new

-- no further line is read: there is none, or none can change the run, or there were as many as have numbers
abbrev pub IsReadOut : Option (List ℕ) → Live → ℕ → Type 0
IsReadOut rest s number = IsNoneCome s rest ⊎ (IsDeafNow s true ⊎ (number ≡ 2 ^ 64 - 1))

-- the lines of the input were met
abbrev pub AreAllRead : Option (List ℕ) → Option (List ℕ) → Point → Point → Type 0
AreAllRead input text old new =
    (n : ℕ) × (rest : Option (List ℕ)) × (last : Point) × AreRead input n text rest old last × HasSent last new × IsReadOut rest last.session (suc n)

-- or the one behind these stopped the run
abbrev pub IsInputStopped : Option (List ℕ) → Fault → Option (List ℕ) → Point → Point → Type 0
IsInputStopped input fault text old new =
    (n : ℕ) × (rest : Option (List ℕ)) × (last : Point) × AreRead input n text rest old last × IsHearing last.session × IsStoppedAt input (suc n) rest last new fault

abbrev pub IsInputMet : {X : Type 0} → Option (List ℕ) → Result X Fault → Option (List ℕ) → Point → Point → Type 0
IsInputMet input (Ok x) text old new = AreAllRead input text old new
IsInputMet input (Err fault) text old new = IsInputStopped input fault text old new

-- ---- the part before the first line

-- a line of number 0 without values was taken; or it was refused, since there is no input channel of the name, or of one of them; or memory
-- was refused for it
abbrev pub IsFirstPart : Option (List ℕ) → Point → Point → Result Bool Fault → Type 0
IsFirstPart input old new (Ok true) = IsReadMet input 0 [] old new (Ok None)
IsFirstPart input old new (Ok false) = (f : TakeFault) × IsReadMet input 0 [] old new (Ok (Some f)) × (is_want f ≡ false)
IsFirstPart input old new (Err fault) = IsReadMet input 0 [] old new (Err fault)
    ⊎ ((fault ≡ no_memory) × ((f : TakeFault) × IsReadMet input 0 [] old new (Ok (Some f)) × (is_want f ≡ true)))

-- that no line is for another input channel was told, where values of one stand alone and there is another
abbrev pub IsAlonePut : List ℕ → Option (List ℕ) → LiveTelling → LiveTelling → Type 0
IsAlonePut input None old new = new ≡ old
IsAlonePut input (Some other) old new = WasSaid File (codes "--plain feeds ") [] (input ∷ codes " alone; no line feeds " ∷ other ∷ []) old new

abbrev pub IsAloneTold : Option (List ℕ) → Point → Point → Type 0
IsAloneTold None old new = new ≡ old
IsAloneTold (Some input) old new = (new.session ≡ old.session) × (new.out ≡ old.out)
    × ((other : Option (List ℕ)) × IsOtherInput old.session.flow.run.network (Some input) other × IsAlonePut input other old.told new.told)

-- ---- the lines behind those of the input

-- each was taken or refused, in their order
abbrev pub AreFed : List (List ℕ) → Point → Point → Type 0
AreFed [] old new = new ≡ old
AreFed (line ∷ lines) old new = (next : Point) × WasAnswered at_end_number line old next × AreFed lines next new

-- one of them stopped the run, behind those before it
abbrev pub IsCutOff : List (List ℕ) → Point → Point → Fault → Type 0
IsCutOff [] old new fault = ⊥
IsCutOff (line ∷ lines) old new fault =
    IsBrokenOff line old new fault ⊎ ((next : Point) × WasAnswered at_end_number line old next × IsCutOff lines next new fault)

abbrev pub AreLastMet : {X : Type 0} → List (List ℕ) → Point → Point → Result X Fault → Type 0
AreLastMet lines old new (Ok x) = AreFed lines old new
AreLastMet lines old new (Err fault) = IsCutOff lines old new fault

-- this one isn't, for this reason, while those before it are
abbrev pub IsFirstUnmeant : Live → List (List ℕ) → List ℕ → TakeFault → Type 0
IsFirstUnmeant s [] line f = ⊥
IsFirstUnmeant s (l ∷ ls) line f = ((l ≡ line) × IsUnfedBy line s.flow f) ⊎ (IsMeantLine l s.flow.run.network × IsFirstUnmeant s ls line f)

-- that was told, unless memory was refused for it
abbrev pub IsLastRefused : Live → List ℕ → TakeFault → LiveTelling → LiveTelling → Result Bool Fault → Type 0
IsLastRefused s line f old new (Ok true) = ⊥
IsLastRefused s line f old new (Ok false) = IsRefused s at_end_number line f old new
IsLastRefused s line f old new (Err fault) = (fault ≡ no_memory) × (is_want f ≡ true) × (new ≡ old)

abbrev pub IsUnmeantTold : Live → List (List ℕ) → LiveTelling → LiveTelling → Result Bool Fault → Type 0
IsUnmeantTold s lines old new r = (line : List ℕ) × (f : TakeFault) × IsFirstUnmeant s lines line f × IsLastRefused s line f old new r

-- before any is fed, all were tried
abbrev pub AreLastTried : Live → List (List ℕ) → LiveTelling → LiveTelling → Result Bool Fault → Type 0
AreLastTried s lines old new r = ((r ≡ Ok true) × AreMeant s lines × (new ≡ old)) ⊎ IsUnmeantTold s lines old new r

-- ---- all lines

-- behind the part before the first line: the lines of the input stopped the run, or those behind them
abbrev pub AreStopped : Option (List ℕ) → List (String Global) → Fault → Option (List ℕ) → Point → Point → Type 0
AreStopped input at_end fault text old new =
    IsInputStopped input fault text old new ⊎ ((last : Point) × AreAllRead input text old last × IsCutOff (map string_bytes at_end) last new fault)

-- the part before the first line, the lines of the input, and the lines behind these, as far as the run came; where there is no
-- input channel of the name no line is read
abbrev pub AreEachMet : Option (List ℕ) → List (String Global) → Result Bool Fault → Option (List ℕ) → Point → Point → Type 0
AreEachMet input at_end (Ok true) text old new = (begun : Point) × IsFirstPart input old begun (Ok true)
    × ((ready : Point) × (last : Point) × IsAloneTold (bare_of input) begun ready × AreAllRead input text ready last × AreFed (map string_bytes at_end) last new)
AreEachMet input at_end (Ok false) text old new = IsFirstPart input old new (Ok false)
AreEachMet input at_end (Err fault) text old new = IsFirstPart input old new (Err fault)
    ⊎ ((begun : Point) × (ready : Point) × IsFirstPart input old begun (Ok true) × IsAloneTold (bare_of input) begun ready × AreStopped input at_end fault text ready new)

-- all that, where each of the lines behind is meant for an input channel; else the first that isn't is told, and nothing else is done
abbrev pub AreAllMet : Option (List ℕ) → List (String Global) → Result Bool Fault → Option (List ℕ) → Point → Point → Type 0
AreAllMet input at_end r text old new = (AreMeant old.session (map string_bytes at_end) × AreEachMet input at_end r text old new)
    ⊎ (IsUnmeantTold old.session (map string_bytes at_end) old.told new.told r × (new.session ≡ old.session) × (new.out ≡ old.out))
