-- Believed. A run that is fed as it goes, and that lets go of what it kept: what contracts see of it, and what its calls make of it (this
-- project's profile).
use Rattle.std.specs.Prelude.{◌≡◌, ◌⊎◌, ℕ, ◌+◌, ◌<◌, ◌≤◌, ◌^◌, List, [], ◌++◌, length, map, replicate, sum_by, None, Some, slice_get, slice_index_or}
use Rattle.kahn_sequential.specs.inner.Below.{Config, End, Entry, FeedFault, IsMeant, IsNotMeant, IsPoured, Line, Lists, Memory, More, Program, Token, TooMany, Value, Verdict, channel_of, most_values, network_of, stream_lines, token_value, total_after}
use Rattle.kahn_streams.specs.declared.{feeds.FeedFault.TheVariants.NoMemory}
use Rattle.kahn_sequential.specs.HeldRuns.{GoesOn, HasStarted, HeldRun, IsResumed, IsRightSoFar, seen_events, so_far}
use Rattle.kahn_sequential.specs.declared.{flow.HeldFault.HeldFault, flow.HeldFault.TheVariants.BadMore}

pub record Flowing : Type 0 where
  -- the run, with all that ever was fed, sent and printed, which contracts alone see
  pub run : HeldRun
  -- of each stream, in their order, what was let go of
  pub out : List (List Value)
  -- of each channel how many values wait
  pub waits : List ℕ

-- the lines of its streams, in order
abbrev pub flow_lines : HeldRun → List Line
flow_lines h = stream_lines (network_of h.network) h.watch

-- a run before its first event, of which nothing was let go of
pub record HasFlowed (t : Program) (lists : Lists) (config : Config) (f : Flowing) : Type 0 where
  pub run : HasStarted t lists config f.run
  pub out : f.out ≡ replicate (length (flow_lines f.run)) []

-- ---- a part of the run

-- some instance has a next event, as the right ends of a run so far say
abbrev pub HasNextEvent : HeldRun → Verdict → Type 0
HasNextEvent h v = (ends : List End) × IsRightSoFar h v ends × ((p : ℕ) × (x : End) × (slice_get ends p ≡ Some x) × (x.outcome ≡ More))

-- refused memory stops it only before the last event of the bound, and only if some instance has a next event
abbrev pub IsStoppedShort : HeldRun → Verdict → Type 0
IsStoppedShort h v = v ≡ Memory → (sum_by seen_events h.cells < h.bound) × HasNextEvent h v

-- so many events more are allowed, as of a held run; what was let go of stays
abbrev pub IsRunOn : ℕ → Flowing → Flowing → Verdict → Type 0
IsRunOn more old new v = IsResumed more old.run new.run v × (new.out ≡ old.out) × IsStoppedShort new.run v

-- why it isn't run: the sum of all bounds alone, since a part takes no memory of its own
abbrev pub IsNotRun : ℕ → Flowing → Flowing → HeldFault → Type 0
IsNotRun more old new f = (f ≡ BadMore) × (new ≡ old) × (2 ^ 48 ≤ old.run.bound + more)

-- ---- more input

-- how many values would wait in the entry's channel: those that wait, and the entry's
abbrev pub would_wait : Flowing → Entry → ℕ
would_wait f entry = slice_index_or f.waits (channel_of f.run.network entry) 0 + length entry.1

-- the values are meant for an input channel, come after those of it, and nothing else but the answer changes
pub record HasPouredIn (entry : Entry) (old new : Flowing) : Type 0 where
  pub meant : IsMeant old.run.network entry
  pub lists : IsPoured old.run.input (channel_of old.run.network entry) entry.1 new.run.input
  pub few : would_wait old entry ≤ most_values
  pub rest : new.run ≡ record old.run { input = new.run.input; verdict = None }
  pub out : new.out ≡ old.out
  pub goes_on : GoesOn old.run new.run

-- why not, and then nothing changes: they aren't meant for an input channel, or else too many would wait, or the places of the
-- channel are used up, or else memory was refused
abbrev pub IsUnpoured : Entry → Flowing → Flowing → FeedFault → Type 0
IsUnpoured entry old new TooMany =
    (new ≡ old) × IsMeant old.run.network entry × ((most_values < would_wait old entry) ⊎ (2 ^ 48 ≤ total_after old.run.network old.run.input entry))
IsUnpoured entry old new NoMemory = (new ≡ old) × IsMeant old.run.network entry
IsUnpoured entry old new f = (new ≡ old) × IsNotMeant old.run.network entry f

-- ---- what was shown

-- all that there is of each stream was let go of
abbrev pub HasLetGo : Flowing → Flowing → Type 0
HasLetGo old new = new ≡ record old { out = map (so_far old.run) (flow_lines old.run) }

-- these tokens are what is new of the stream of a line since it was last let go of
abbrev pub AreNew : Flowing → Line → List Token → Type 0
AreNew f line ts =
    (j : ℕ) → slice_get (flow_lines f.run) j ≡ Some line → so_far f.run line ≡ slice_index_or f.out j [] ++ map token_value ts

-- nothing is new of the stream of this number
abbrev pub IsStale : Flowing → ℕ → Type 0
IsStale f j = (line : Line) → slice_get (flow_lines f.run) j ≡ Some line → so_far f.run line ≡ slice_index_or f.out j []
