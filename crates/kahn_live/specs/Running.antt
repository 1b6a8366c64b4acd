-- Believed. A run on lines, from the program text to the status (this project's profile).
use Rattle.std.specs.Prelude.{◌≡◌, ◌⊎◌, ◌==◌, ℕ, Bool, true, false, List, [], ◌∷◌, Option, None, Some, Result, Ok, Err, codes, option_map, string_bytes}
use Rattle.std.specs.{List.before_first, declared.alloc.Global.Global, declared.vec.Vec.Vec, declared.string.String.String, Io.KnownBytes.Keeps}
use Rattle.kahn_streams.specs.{declared.config.Config.Config, declared.tree.Program.Program, declared.answer.Verdict.Verdict, declared.answer.Verdict.TheVariants.Finished, declared.fault.RunFault.RunFault, declared.fault.RunFault.TheVariants.NoMemory as NoMemoryRun, declared.fault.RunFault.TheVariants.UnknownWatch}
use Rattle.kahn_sequential.specs.HeldRuns.{HeldRun}
use Rattle.kahn_fault.specs.{Work.IsChecked, Work.IsUnchecked, declared.work.WorkFault.WorkFault, declared.work.WorkFault.TheVariants.Run as RunWork, Status.live_status_of, Telling.pointer_text, Telling.told_text, declared.fault.Fault.Fault, declared.fault.Fault.TheVariants.Work}
use Rattle.kahn_line.specs.{Parts.input_named, declared.live.LiveOptions.LiveOptions, declared.live.PlainNames.PlainNames}
use Rattle.kahn_session.specs.{Live.HasOpened, Live.IsFaulty, Live.IsLastText, Live.IsRinged, Live.IsUnopened, Live.Live, Live.has_left, declared.refusal.Origin.Origin, declared.refusal.Origin.TheVariants.File, declared.refusal.Origin.TheVariants.Plain, declared.refusal.Origin.TheVariants.Watch}
use Rattle.kahn_live.specs.Course.{AreCausesOf, HasSent, HasWaited, IsMoreTold, IsWriteFault, Point, LiveTelling, WasSaid, WasTold, no_memory, telling_of}
use Rattle.kahn_live.specs.{InputMet.AreAllMet, Rows.AreNumbered, declared.outlet.DeferredWriter.DeferredWriter, declared.running.Amiss.Amiss, declared.running.Amiss.TheVariants.Faulted, declared.running.Amiss.TheVariants.Ringed, declared.running.RunEnding.RunEnding, declared.running.RunEnding.TheVariants.Reached, declared.running.RunEnding.TheVariants.Gone, declared.running.RunEnding.TheVariants.Refused, declared.telling.Teller.Teller}

-- ---- the start

-- the first of several names, with commas (44) between
abbrev pub first_name : List ℕ → List ℕ
first_name names = before_first (λ b. b == 44) names

-- the name of the channel that is watched: that of `--watch`; where values stand alone the first one whose values are shown, and no other
abbrev pub name_watched : Option PlainNames → Option (String Global) → Option (List ℕ)
name_watched None watch = option_map string_bytes watch
name_watched (Some p) watch = option_map (λ names. first_name (string_bytes names)) p.output

-- the channel of this name is watched, and nothing else differs
abbrev pub Watches : Option (List ℕ) → Config → Config → Type 0
Watches name old new = (option_map string_bytes new.watch ≡ name) × (new ≡ record old { watch = new.watch })

-- the first stream alone, or memory was refused
abbrev pub IsFirstStream : Result (Vec ℕ Global) RunFault → Type 0
IsFirstStream (Ok columns) = columns.items ≡ 0 ∷ []
IsFirstStream (Err f) = f ≡ NoMemoryRun

-- the numbers of the streams whose values alone are shown: those of the channels that are named, or else the first
abbrev pub ArePlainStreams : HeldRun → Option (String Global) → Result (Vec ℕ Global) RunFault → Type 0
ArePlainStreams h None r = IsFirstStream r
ArePlainStreams h (Some names) r = AreNumbered h (string_bytes names) r

-- the session in the form that is asked for; or why there is none
abbrev pub IsInForm : Option PlainNames → Live → Result Live RunFault → Type 0
IsInForm None s r = r ≡ Ok s
IsInForm (Some p) s (Ok shown) = (columns : Vec ℕ Global) × ArePlainStreams s.flow.run p.output (Ok columns) × (shown ≡ record s { columns = columns.items })
IsInForm (Some p) s (Err f) = ArePlainStreams s.flow.run p.output (Err f)

-- a session of the network before its first part, in that form, or why there is none
abbrev pub IsSetUp : Option PlainNames → Program → Config → Result Live RunFault → Type 0
IsSetUp plain t config (Ok s) = (first : Live) × HasOpened t config first × IsInForm plain first (Ok s)
IsSetUp plain t config (Err f) = IsUnopened t config f ⊎ ((first : Live) × HasOpened t config first × IsInForm plain first (Err f))

-- ---- the end

-- what is amiss with a run, where it is judged: a fault of a process, or else processes that wait on one another
abbrev pub IsJudged : Bool → HeldRun → Option Amiss → Type 0
IsJudged false h r = r ≡ None
IsJudged true h (Some Faulted) = IsFaulty h true
IsJudged true h (Some Ringed) = IsFaulty h false × IsRinged h true
IsJudged true h None = IsFaulty h false × IsRinged h false

-- the status of a run with this verdict of which that is amiss
abbrev pub reached_status : Option Amiss → Bool → Verdict → ℕ
reached_status (Some Faulted) refused v = 8
reached_status (Some Ringed) refused v = 7
reached_status None refused v = live_status_of refused (Ok v)

-- whether it is told how the run ended: where the status isn't 0, a process has a fault, or processes wait on one another
abbrev pub IsEndWanted : HeldRun → Option Amiss → Bool → Verdict → Bool → Type 0
IsEndWanted h amiss refused v true = (reached_status amiss refused v ≡ 0 → ⊥) ⊎ (IsFaulty h true ⊎ IsRinged h true)
IsEndWanted h amiss refused v false = (reached_status amiss refused v ≡ 0) × IsFaulty h false × IsRinged h false

abbrev pub IsEndPut : HeldRun → LiveTelling → LiveTelling → Type 0
IsEndPut h old new = (v : Verdict) × (text : List ℕ) × IsLastText h v text × WasTold text old new

-- what came of the run and its causes was told; or that memory was refused for it
abbrev pub IsWhyTold : HeldRun → LiveTelling → LiveTelling → Type 0
IsWhyTold h old new = ((words : List ℕ) × AreCausesOf h words × WasTold words old new)
    ⊎ WasSaid File (codes "no memory to say why it ended so") [] [] old new

abbrev pub IsEndTold : HeldRun → LiveTelling → LiveTelling → Bool → Type 0
IsEndTold h old new true = (mid : LiveTelling) × (last : LiveTelling) × IsMoreTold old mid × IsWhyTold h mid last × IsEndPut h last new
IsEndTold h old new false = new ≡ old

abbrev pub IsVerdictMet : HeldRun → Option Amiss → LiveTelling → LiveTelling → Verdict → Type 0
IsVerdictMet h amiss old new v = (h.verdict ≡ Some v) × ((told : Bool) × IsEndWanted h amiss old.refused v told × IsEndTold h old new told)

-- that values are left without the others of their row was told, behind how many lines more were refused
abbrev pub IsLeftTold : Bool → LiveTelling → LiveTelling → Type 0
IsLeftTold true old new = (mid : LiveTelling) × IsMoreTold old mid × WasSaid File (codes "values are left without the others of their row") [] [] mid new
IsLeftTold false old new = new ≡ old

-- what is new went out; what is left, and how the run ended, is told
abbrev pub IsEnded : Option Amiss → Point → Point → Result Verdict Fault → Type 0
IsEnded amiss old new (Ok v) = HasWaited old new
    × ((mid : LiveTelling) × IsLeftTold (has_left old.session) old.told mid × IsVerdictMet old.session.flow.run amiss mid new.told v)
IsEnded amiss old new (Err fault) = IsWriteFault fault × HasSent old new

-- ---- the lines and the end

-- the run was judged, and how it ended was told
abbrev pub IsClosing : Bool → Option Amiss → Point → Point → Result Verdict Fault → Type 0
IsClosing strict amiss old new r = IsJudged strict old.session.flow.run amiss × IsEnded amiss old new r

-- all lines were met and then the end, or one of these stopped the run
abbrev pub HasServedAll : Bool → Option (List ℕ) → List (String Global) → Result RunEnding Fault → Option (List ℕ) → Point → Point → Type 0
HasServedAll strict input at_end (Ok (Reached v amiss)) text old new =
    (last : Point) × AreAllMet input at_end (Ok true) text old last × IsClosing strict amiss last new (Ok v)
HasServedAll strict input at_end (Ok Refused) text old new = AreAllMet input at_end (Ok false) text old new
HasServedAll strict input at_end (Ok Gone) text old new = ⊥
HasServedAll strict input at_end (Err fault) text old new = AreAllMet input at_end (Err fault) text old new
    ⊎ ((last : Point) × (amiss : Option Amiss) × AreAllMet input at_end (Ok true) text old last × IsClosing strict amiss last new (Err fault))

-- nothing was done, since memory was refused
abbrev pub IsLacking : {X P : Type 0} → Result X Fault → P → P → Type 0
IsLacking r old new = (r ≡ Err no_memory) × (new ≡ old)

abbrev pub HasServed : Bool → Option (List ℕ) → List (String Global) → Result RunEnding Fault → Option (List ℕ) → Point → Point → Type 0
HasServed strict input at_end r text old new = HasServedAll strict input at_end r text old new ⊎ IsLacking r old new

-- what went out, and whether a write or a send answered that nobody reads it any more
pub record Output : Type 0 where
  pub bytes : Option (List ℕ)
  pub gone : Bool

abbrev pub output_of : {W : Type 0} → (W → Option (List ℕ)) → DeferredWriter W → Output
output_of written o = record { bytes = written o.writer; gone = o.gone }

-- before the first write
abbrev pub unwritten : Option (List ℕ) → Output
unwritten bytes = record { bytes = bytes; gone = false }

-- what is new couldn't be sent in the end
abbrev pub IsUnsent : Result RunEnding Fault → Result RunEnding Fault → Type 0
IsUnsent (Ok x) (Err fault) = IsWriteFault fault
IsUnsent ending r = ⊥

-- How a run ended. If a write or a send answered that nobody reads what is new any more, that is how; else it never is, and the run ended as its
-- lines did, or by a fault of the last send.
abbrev pub WasSent : Bool → Result RunEnding Fault → Result RunEnding Fault → Type 0
WasSent true ending r = r ≡ Ok Gone
WasSent false ending r = (r ≡ ending) ⊎ IsUnsent ending r

-- ---- the whole run

-- this holds of what is told, before and after, and of the answer
abbrev pub Tells : {X E : Type 0} → (E → Option (List ℕ)) → Teller E → X × Teller E → (LiveTelling → LiveTelling → X → Type 0) → Type 0
Tells said old done holds = holds (telling_of said old) (telling_of said done.1) done.0

-- the same, and of what went out
abbrev pub Gives : {W E : Type 0} → (W → Option (List ℕ)) → (E → Option (List ℕ)) → Teller E → Result RunEnding Fault × DeferredWriter W × Teller E
    → (Output → LiveTelling → LiveTelling → Result RunEnding Fault → Type 0) → Type 0
Gives written said old done holds = holds (output_of written done.1) (telling_of said old) (telling_of said done.2) done.0

-- the option that names channels which have to have streams, and these names, where a run is refused since one has none
abbrev pub unknown_shown : RunFault → Option PlainNames → Option (String Global) → Option (Origin × List ℕ)
unknown_shown UnknownWatch None watch = option_map (λ name. (Watch, string_bytes name)) watch
unknown_shown UnknownWatch (Some p) watch = option_map (λ names. (Plain, string_bytes names)) p.output
unknown_shown f plain watch = None

-- that was told, with whatever words of others; or the run is refused for another reason
abbrev pub IsUnstartedTold : Option (Origin × List ℕ) → RunFault → LiveTelling → LiveTelling → Result RunEnding Fault → Type 0
IsUnstartedTold None f old new r = (r ≡ Err (Work (RunWork f))) × (new ≡ old)
IsUnstartedTold (Some (from, names)) f old new r =
    (r ≡ Ok Refused) × ((words : List ℕ) × WasSaid from (codes "no such channel") names (words ∷ []) old new)

-- the lines were served from a session on; this went out in all, and this was told
abbrev pub HasRunSession : LiveOptions → Live → Option (List ℕ) → Output → Output → LiveTelling → LiveTelling → Result RunEnding Fault → Type 0
HasRunSession o s text out made old new r = (last : Point) × (ending : Result RunEnding Fault)
    × HasServed o.strict (input_named o.plain) o.at_end.items ending text (record { session = s; out = out.bytes; told = old }) last
    × WasSent made.gone ending r × Keeps last.out made.bytes × (new ≡ last.told)

-- a session of the network was set up and run, or why not: the run is refused, and nothing went out
abbrev pub HasRunNetwork : LiveOptions → Program → Config → Option (List ℕ) → Output → Output → LiveTelling → LiveTelling → Result RunEnding Fault → Type 0
HasRunNetwork o t config text out made old new r =
    ((f : RunFault) × IsSetUp o.plain t config (Err f) × IsUnstartedTold (unknown_shown f o.plain o.config.watch) f old new r × (made ≡ out))
    ⊎ ((s : Live) × IsSetUp o.plain t config (Ok s) × HasRunSession o s text out made old new r)

-- the network of the program text was run on this text of input, or why not: memory was refused, or the program text is
abbrev pub HasRunText : List ℕ → LiveOptions → Option (List ℕ) → Output → Output → LiveTelling → LiveTelling → Result RunEnding Fault → Type 0
HasRunText program o text out made old new r = (IsLacking r old new × (made ≡ out))
    ⊎ (((f : WorkFault) × IsUnchecked program f × (r ≡ Err (Work f)) × (new ≡ old) × (made ≡ out))
    ⊎ ((t : Program) × (config : Config) × IsChecked program t × Watches (name_watched o.plain o.config.watch) o.config config × HasRunNetwork o t config text out made old new r))

-- ---- the status

abbrev pub ending_status : Bool → Result RunEnding Fault → ℕ
ending_status refused (Ok (Reached v amiss)) = reached_status amiss refused v
ending_status refused (Ok Gone) = live_status_of refused (Ok Finished)
ending_status refused (Ok Refused) = 6
ending_status refused (Err fault) = live_status_of refused (Err fault)

-- what is told of how a run ended: a fault, and which program says more of it
abbrev pub IsLastTold : List ℕ → Result Verdict Fault → LiveTelling → LiveTelling → Type 0
IsLastTold program answer old new = (mid : LiveTelling) × (last : LiveTelling)
    × IsMoreTold old mid × WasTold (told_text program answer) mid last × WasTold (pointer_text last.path answer) last new

abbrev pub IsEndingTold : List ℕ → Result RunEnding Fault → LiveTelling → LiveTelling → Type 0
IsEndingTold program (Ok (Reached v amiss)) old new = IsLastTold program (Ok v) old new
IsEndingTold program (Ok Gone) old new = IsLastTold program (Ok Finished) old new
IsEndingTold program (Ok Refused) old new = new ≡ old
IsEndingTold program (Err fault) old new = IsLastTold program (Err fault) old new

-- before the first line
abbrev pub untold : Option (List ℕ) → Bool → List ℕ → LiveTelling
untold bytes keep_going path = record {
  bytes = bytes;
  failed = false;
  keep_going = keep_going;
  refused = false;
  path = path;
  last = None;
  first = 0;
  number = 0;
  hinted = false;
  stepped = false;
  waited = false;
  faulted = false;
  ringed = false;
}

-- a program text, of this file, was run as the options say, on this text of input, behind what was written and what was told before; how that
-- ended was told, this is what went out, and the status is this
abbrev pub HasRunAs : List ℕ → List ℕ → LiveOptions → Option (List ℕ) → Option (List ℕ) → Option (List ℕ) → Output → LiveTelling → ℕ → Type 0
HasRunAs program path o text out bytes made new status =
    (r : Result RunEnding Fault) × (last : LiveTelling) × HasRunText program o text (unwritten out) made (untold bytes o.keep_going path) last r
    × IsEndingTold program r last new × (status ≡ ending_status last.refused r)

-- this holds of what went out, of what is told, and of the status
abbrev pub EndsAs : {W E : Type 0} → (W → Option (List ℕ)) → (E → Option (List ℕ)) → ℕ × DeferredWriter W × Teller E → (Output → LiveTelling → ℕ → Type 0) → Type 0
EndsAs written said done holds = holds (output_of written done.1) (telling_of said done.2) done.0
