-- Believed. A session: a run that is fed line by line, and what it has shown of its streams (this project's profile).
use Rattle.std.specs.Prelude.{◌≡◌, ◌⊎◌, ℕ, suc, ◌<◌, ◌≤◌, Bool, true, false, List, [], ◌∷◌, map, length, replicate, slice_get, slice_index_or, Option, None, Some, is_some, Result, Ok, Err, ◌&&◌, not, nat_lt, ◌++◌}
use Rattle.std.specs.{Io.KnownBytes.Appends, List.list_any, List.position, Str.IsUtf8, Str.bytes_eq}
use Rattle.kahn_streams.specs.{declared.config.Config.Config, declared.tree.Program.Program, declared.tree.Role.Role, declared.value.Failure.Failure, declared.value.Value.Value, declared.value.Line.Line, Network.Schema, Network.channel_names, Network.network_of, Network.role_at, declared.value.Line.TheVariants.Channel, Feeds.IsMeant, Inputs.Entry, Inputs.inputs_of, Answers.Settles, declared.answer.End.End, declared.answer.Outcome.Outcome, declared.answer.Outcome.TheVariants.Faulted, declared.answer.Outcome.TheVariants.Waits, declared.answer.Verdict.Verdict, declared.answer.Verdict.TheVariants.Finished, declared.fault.RunFault.RunFault, Written.AppendsFront}
use Rattle.kahn_streams.specs.declared.tree.Role.TheVariants as role
use Rattle.kahn_chain.specs.Chain.{HasRing, stands}
use Rattle.kahn_sequential.specs.{HeldRuns.GoesOn, HeldRuns.HeldRun, HeldRuns.IsRightSoFar, HeldRuns.IsUnstarted, HeldRuns.so_far, Flows.Flowing, Flows.HasFlowed, Flows.HasPouredIn, Flows.IsUnpoured, Flows.flow_lines}
use Rattle.kahn_streams.specs.declared.fault.RunFault.TheVariants as fault
use Rattle.kahn_texts.specs.{Formats.AreBlanks, Formats.IsEntry, Formats.HasNoHead, Formats.HasNoValues, Formats.content, Formats.most_input_bytes, Formats.channel_name, News.closing_text, News.joined, declared.bytes.WriteFault.WriteFault}
use Rattle.kahn_session.specs.{Forms.HasLetGoBehind, Forms.form_text, Forms.is_uneven, Forms.news_of, Forms.next_of, Forms.row_count, Pace.Pace, Pace.events_of, Pace.part_bound, declared.refusal.TakeFault.TakeFault, declared.refusal.TakeFault.TheVariants.TooLong, declared.refusal.TakeFault.TheVariants.NotUtf8, declared.refusal.TakeFault.TheVariants.BadLine, declared.refusal.TakeFault.TheVariants.BadValue, declared.refusal.TakeFault.TheVariants.BadRow, declared.refusal.TakeFault.TheVariants.Feed, declared.refusal.TakeFault.TheVariants.NoMemory, declared.refusal.TakeFault.TheVariants.Write}

pub record Live : Type 0 where
  -- the run, and what was let go of each stream: all of it went out, but for what waits
  pub flow : Flowing
  -- the events that a part may take
  pub step : ℕ
  -- whether a write failed: then more may have gone out
  pub broken : Bool
  -- the numbers of the streams whose values alone are shown, of several in rows; where there are none, all streams are
  pub columns : List ℕ
  -- of what was let go of each stream, the last values, which wait for the others of their rows
  pub waits : List (List Value)
  -- how many rows went out of what waits and of what wasn't let go of
  pub shown : ℕ

-- the run has a verdict for its input so far and its bound so far, and no write failed
abbrev pub HasVerdict : Live → Type 0
HasVerdict s = (s.broken ≡ false) × ((v : Verdict) × (s.flow.run.verdict ≡ Some v))

-- ---- the start

-- a run over no input, whose parts may take as many events as the configuration's bound; nothing went out
pub record HasOpened (t : Program) (config : Config) (s : Live) : Type 0 where
  pub flow : HasFlowed t (replicate (length (network_of t).channels) []) config s.flow
  pub step : s.step ≡ config.bound
  pub broken : s.broken ≡ false
  pub columns : s.columns ≡ []
  pub waits : s.waits ≡ []
  pub shown : s.shown ≡ 0

abbrev pub IsUnopened : Program → Config → RunFault → Type 0
IsUnopened t config fault.BadConfig = IsUnstarted t config fault.BadConfig
IsUnopened t config fault.UnknownWatch = IsUnstarted t config fault.UnknownWatch
IsUnopened t config fault.NoMemory = Unit {0}
IsUnopened t config fault.NoThread = ⊥
IsUnopened t config fault.Stalled = ⊥

-- whether the line is that of a channel of this name
abbrev pub bears_name : Program → List ℕ → Line → Bool
bears_name t name (Channel channel) = bytes_eq (channel_name t channel) name
bears_name t name _ = false

-- the number of the first stream that is that of a channel of this name, where there is one
abbrev pub stream_of : HeldRun → List ℕ → Option ℕ
stream_of h name = position (bears_name h.network name) (flow_lines h)

-- ---- a line of input

-- the line is within its limit and a text
abbrev pub IsText : List ℕ → Type 0
IsText line = (length line ≤ most_input_bytes) × IsUtf8 line

-- what the line makes of the run before its part: nothing where it is blank, and else its values are fed
abbrev pub IsFedBy : List ℕ → Flowing → Flowing → Type 0
IsFedBy line old new =
    IsText line × ((AreBlanks (content line) × (new ≡ old)) ⊎ ((entry : Entry) × IsEntry (content line) entry × HasPouredIn entry old new))

-- the values of the line are meant for an input channel, or it is blank
abbrev pub IsMeantLine : List ℕ → Program → Type 0
IsMeantLine line t = IsText line × (AreBlanks (content line) ⊎ ((entry : Entry) × IsEntry (content line) entry × IsMeant t entry))

-- why the line feeds nothing
abbrev pub IsUnfedBy : List ℕ → Flowing → TakeFault → Type 0
IsUnfedBy line h TooLong = most_input_bytes < length line
IsUnfedBy line h NotUtf8 = (length line ≤ most_input_bytes) × ¬ IsUtf8 line
IsUnfedBy line h BadLine = IsText line × HasNoHead (content line)
IsUnfedBy line h BadValue = IsText line × HasNoValues (content line)
IsUnfedBy line h BadRow = ⊥
IsUnfedBy line h (Feed f) = IsText line × ((entry : Entry) × IsEntry (content line) entry × IsUnpoured entry h h f)
IsUnfedBy line h NoMemory = IsText line
IsUnfedBy line h (Write f) = ⊥

-- the line's values were fed, and no part was run
pub record HasFedLine (line : List ℕ) (old new : Live) : Type 0 where
  pub fed : IsFedBy line old.flow new.flow
  pub rest : new ≡ record old { flow = new.flow }

-- the run goes on by a part
pub record HasGoneOn (old new : Live) : Type 0 where
  pub input : new.flow.run.input ≡ old.flow.run.input
  pub goes_on : GoesOn old.flow.run new.flow.run
  pub step : new.step ≡ old.step
  pub columns : new.columns ≡ old.columns

abbrev pub pace_of : Live → Pace
pace_of s = record { flow = s.flow; waits = s.waits; step = s.step }

-- after a part, before anything of it is let go of
abbrev pub pace_after : Live → Live → Pace
pace_after old new = record { flow = record new.flow { out = old.flow.out }; waits = old.waits; step = new.step }

-- the part has this verdict, and the ends that are right for the input so far and the bound so far; and what is new on each
-- stream, behind what was let go of it, is its stream so far
pub record HasAnswered (old new : Live) (v : Verdict) : Type 0 where
  pub gone_on : HasGoneOn old new
  pub bound : new.flow.run.bound ≡ part_bound old.step old.flow.run
  pub verdict : new.flow.run.verdict ≡ Some v
  pub ends : (ends : List End) × IsRightSoFar new.flow.run v ends
  pub exact : Settles (network_of new.flow.run.network) (inputs_of new.flow.run.input) new.flow.run.bound v
  pub joined : joined old.flow.out (news_of (pace_after old new).flow) ≡ map (so_far new.flow.run) (flow_lines new.flow.run)

-- the text of the news, behind what waited and the rows that went out before
abbrev pub news_written : Live → Live → List ℕ
news_written old new = form_text old.columns old.shown new.flow.run.network (pace_after old new)

-- what was let go of each stream begins what there is of it
abbrev pub OutBegins : Flowing → Type 0
OutBegins f = (j : ℕ) (c : Line) → slice_get (flow_lines f.run) j ≡ Some c → (news : List Value) × (so_far f.run c ≡ slice_index_or f.out j [] ++ news)

-- whether values stand behind the rows that went out
abbrev pub has_left : Live → Bool
has_left s = is_uneven (next_of (pace_of s)) s.shown s.columns

-- all whole rows went out
abbrev pub AreRowsGone : Live → Live → Type 0
AreRowsGone old new = HasLetGoBehind (row_count (next_of (pace_after old new)) old.columns) old.columns (pace_after old new) (pace_of new) new.shown

-- the news went out, and what went out is let go of
pub record HasRunPart (old new : Live) (before after : Option (List ℕ)) (v : Verdict) : Type 0 where
  pub answered : HasAnswered old new v
  pub gone : AreRowsGone old new
  pub begun : OutBegins new.flow
  pub text : Appends before after (news_written old new)

-- a fault of the writer: a prefix of the news went out
pub record HasBroken (old new : Live) (before after : Option (List ℕ)) : Type 0 where
  pub verdict : Verdict
  pub answered : HasAnswered old new verdict
  pub text : AppendsFront before after (news_written old new)

-- what a part made of a session and of the bytes that were written
abbrev pub IsPartShown : Live → Live → Option (List ℕ) → Option (List ℕ) → Result Verdict WriteFault → Type 0
IsPartShown old new before after (Ok v) = HasRunPart old new before after v
IsPartShown old new before after (Err f) = HasBroken old new before after

-- whether the session is broken by a fault
abbrev pub breaks : TakeFault → Bool
breaks (Write f) = true
breaks f = false

-- nothing changed, and why
pub record IsRefusedLine (line : List ℕ) (old new : Live) (before after : Option (List ℕ)) (f : TakeFault) : Type 0 where
  pub same : new ≡ old
  pub text : after ≡ before
  pub why : IsUnfedBy line old.flow f

-- what a line of input made of a session and of the bytes that were written: it was fed, and then a part was run
abbrev pub IsTakenLine : List ℕ → Live → Live → Option (List ℕ) → Option (List ℕ) → Result Verdict TakeFault → Type 0
IsTakenLine line old new before after (Ok v) = (fed : Live) × HasFedLine line old fed × HasRunPart fed new before after v
IsTakenLine line old new before after (Err (Write f)) = (fed : Live) × HasFedLine line old fed × HasBroken fed new before after
IsTakenLine line old new before after (Err f) = IsRefusedLine line old new before after f

-- ---- the end

-- the number of the first instance that has a fault, and which one, where this is the end of the one of this number, and behind it that
abbrev pub fault_at : ℕ → Outcome → Option (ℕ × Failure) → Option (ℕ × Failure)
fault_at number (Faulted kind) behind = Some (number, kind)
fault_at number _ behind = behind

-- the same where the first of these ends is that of the instance of this number
abbrev pub first_faulted : ℕ → List End → Option (ℕ × Failure)
first_faulted number [] = None
first_faulted number (x ∷ xs) = fault_at number x.outcome (first_faulted (suc number) xs)

-- the number from 1 of the first instance that has a fault, of the ends that are right for the input so far and the bound so far
abbrev pub IsFirstFault : HeldRun → Option (ℕ × Failure) → Type 0
IsFirstFault h first =
    (v : Verdict) × (h.verdict ≡ Some v) × ((ends : List End) × IsRightSoFar h v ends × (first ≡ first_faulted 1 ends))

-- whether one has a fault
abbrev pub IsFaulty : HeldRun → Bool → Type 0
IsFaulty h faulty = (first : Option (ℕ × Failure)) × IsFirstFault h first × (faulty ≡ is_some first)

-- it waits on an input channel
abbrev pub is_input : Role → Bool
is_input role.Input = true
is_input _ = false

abbrev pub wants_input : Schema → Outcome → Bool
wants_input N (Waits c) = nat_lt c (length N.channels) && is_input (role_at N c)
wants_input N _ = false

abbrev pub waits_on_input : Schema → End → Bool
waits_on_input N x = wants_input N x.outcome

abbrev pub is_finished : Verdict → Bool
is_finished Finished = true
is_finished _ = false

-- whether no input can change the run any more: it has finished, and no process waits on an input channel
abbrev pub IsDeaf : HeldRun → Bool → Type 0
IsDeaf h deaf =
    (v : Verdict) × (h.verdict ≡ Some v)
    × ((ends : List End) × IsRightSoFar h v ends × (deaf ≡ (is_finished v && not (list_any (waits_on_input (network_of h.network)) ends))))

-- a line may still change the run
abbrev pub IsHearing : Live → Type 0
IsHearing s = HasVerdict s → IsDeaf s.flow.run false

-- whether none can
abbrev pub IsDeafNow : Live → Bool → Type 0
IsDeafNow s true = HasVerdict s × IsDeaf s.flow.run true
IsDeafNow s false = IsHearing s

-- whether processes wait on one another in a ring, of the ends that are right for the input so far and the bound so far
abbrev pub IsRinged : HeldRun → Bool → Type 0
IsRinged h ringed =
    (v : Verdict) × (h.verdict ≡ Some v) × ((ends : List End) × IsRightSoFar h v ends × HasRing (network_of h.network) (map stands ends) ringed)

-- whether a channel of this role and name is an input of another name than that, where there is one
abbrev pub is_other : Option (List ℕ) → List ℕ → Bool
is_other None channel = true
is_other (Some name) channel = not (bytes_eq channel name)

abbrev pub is_other_input : Option (List ℕ) → Role → List ℕ → Bool
is_other_input but r channel = is_input r && is_other but channel

abbrev pub IsNoOther : Program → Option (List ℕ) → ℕ → Type 0
IsNoOther t but c = (channel : List ℕ) → slice_get (channel_names t) c ≡ Some channel → is_other_input but (role_at (network_of t) c) channel ≡ false

-- the first such channel has this name, or there is none
abbrev pub IsOtherInput : Program → Option (List ℕ) → Option (List ℕ) → Type 0
IsOtherInput t but None = (c : ℕ) → c < length (network_of t).channels → IsNoOther t but c
IsOtherInput t but (Some other) = (c : ℕ) × (slice_get (channel_names t) c ≡ Some other)
    × (is_other_input but (role_at (network_of t) c) other ≡ true) × ((d : ℕ) → d < c → IsNoOther t but d)

abbrev pub IsFirstInput : Program → Option (List ℕ) → Type 0
IsFirstInput t first = IsOtherInput t None first

-- the text of how the run ended: its verdict, with the ends that are right for the input so far and the bound so far
abbrev pub IsLastText : HeldRun → Verdict → List ℕ → Type 0
IsLastText h v text =
    (h.verdict ≡ Some v) × ((ends : List End) × IsRightSoFar h v ends × (text ≡ closing_text h.network v ends (events_of h)))

-- the text went out, or after a fault of the writer a prefix of it
abbrev pub IsClosed : HeldRun → Option (List ℕ) → Option (List ℕ) → Result Verdict WriteFault → Type 0
IsClosed h before after (Ok v) = (text : List ℕ) × IsLastText h v text × Appends before after text
IsClosed h before after (Err f) = (v : Verdict) × (text : List ℕ) × IsLastText h v text × AppendsFront before after text
