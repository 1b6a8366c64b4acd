-- Inner. A run over cells.
use Rattle.std.specs.Prelude.{◌≡◌, ◌⊎◌, ℕ, ◌+◌, ◌<◌, ◌≤◌, Bool, true, false, List, length, map, sum_by, Option, Some, slice_get, slice_set}
use Rattle.kahn_streams.specs.Script as script
use Rattle.kahn_sequential.specs.inner.Below.{StoodBy, exec_on, Bound, Cut, Dry, End, Finished, Inputs, Line, Memory, More, Schema, Pause, Paused, Reads, Store, Stream, Verdict, View, actual_at, ending, instance_at, source, stream_line}
use Rattle.kahn_streams.specs.Solution as net
use Rattle.kahn_code.specs.declared.progress.Pause.TheVariants as pause
use Rattle.kahn_sequential.specs.inner.Gathered.{view_at, TookAll, TookNoMore, HasUntaken, IsOutcomeOf, IsFrom}

pub record RunState : Type 0 where
  pub network : Schema
  pub input : Inputs
  pub watch : Option ℕ
  pub cells : List View

abbrev pub events_at : RunState → ℕ → ℕ
events_at s p = (view_at s.cells p).events

-- what a pause says of the outcome
abbrev pub IsPaused : RunState → ℕ → Pause → script.ScriptOutcome Store → Type 0
IsPaused s p pause.Ended o = ending o ≡ Some net.Ended
IsPaused s p (pause.Fault k) o = ending o ≡ Some (net.Faulted k)
IsPaused s p (pause.Dry q) o =
    (c : ℕ) × (actual_at (instance_at s.network p) q ≡ Reads c) × (o ≡ Dry q) × TookAll s.network s.input s.cells p q c
IsPaused s p pause.Spent o = (o ≡ Cut) ⊎ HasUntaken s.network s.input s.cells p o
IsPaused s p pause.NoMemory o = o ≡ Cut

-- the cell of p stands so, and that is what its pause says
abbrev pub PausedAt : RunState → ℕ → Pause → Type 0
PausedAt s p z = Paused s.network s.input s.watch p (view_at s.cells p) (IsPaused s p z)

-- the cell of p was run for at most so many events, and paused so
pub record HasRunCell (s t : RunState) (p quantum : ℕ) (z : Pause) : Type 0 where
  pub same : (t.network ≡ s.network) × (t.input ≡ s.input) × (t.watch ≡ s.watch)
  pub known : length t.cells ≡ length t.network.instances
  -- the other cells are left as they are
  pub only : t.cells ≡ slice_set s.cells p (view_at t.cells p)
  pub events : (events_at s p ≤ events_at t p) × (events_at t p ≤ events_at s p + quantum)
  -- where no event was done all is as before
  pub still : events_at t p ≡ events_at s p → t ≡ s
  pub paused : PausedAt t p z
  pub spent : z ≡ pause.Spent → events_at t p ≡ events_at s p + quantum
  pub wanted : z ≡ pause.NoMemory → events_at t p < events_at s p + quantum

-- the cell of p stands so, and x is its end
pub record HasEndIn (s : RunState) (p : ℕ) (x : End) : Type 0 where
  pub stood : StoodBy s.network s.input s.watch p (view_at s.cells p)
  pub count : x.events ≡ (view_at s.cells p).events
  pub told : IsOutcomeOf s.network s.input s.cells p (exec_on s.network (view_at s.cells p).events p stood.tapes).outcome x.outcome

-- if memory was refused, so much is left of the bound and some instance stands where it paused for want of memory
abbrev pub LacksMemory : RunState → ℕ → Bool → Type 0
LacksMemory s left memory = memory ≡ true → (0 < left) × ((p : ℕ) × (p < length s.cells) × PausedAt s p pause.NoMemory)

-- ---- rounds

abbrev pub view_events : View → ℕ
view_events v = v.events

-- the events of all instances
abbrev pub all_events : RunState → ℕ
all_events s = sum_by view_events s.cells

-- each end is that of its instance, which wants more only if it may not go on
abbrev pub AreEnds : RunState → ℕ → Bool → List End → Type 0
AreEnds s left memory ends =
    (p : ℕ) (x : End) → slice_get ends p ≡ Some x → HasEndIn s p x × (x.outcome ≡ More → (left ≡ 0) ⊎ (memory ≡ true))

-- after the last round: with so many events and so much left in all, each end is that of its instance
pub record IsLast (s : RunState) (t0 left : ℕ) (memory : Bool) (xs : List End) : Type 0 where
  pub known : length s.cells ≡ length s.network.instances
  pub total : all_events s + left ≡ t0
  pub size : length xs ≡ length s.network.instances
  pub ends : AreEnds s left memory xs

-- the rule of verdicts
abbrev pub IsVerdict : Bool → List End → Verdict → Type 0
IsVerdict memory ends Memory = memory ≡ true
IsVerdict memory ends Finished = (memory ≡ false) × ((p : ℕ) (x : End) → slice_get ends p ≡ Some x → x.outcome ≡ More → ⊥)
IsVerdict memory ends Bound = (memory ≡ false) × ((p : ℕ) × (x : End) × (slice_get ends p ≡ Some x) × (x.outcome ≡ More))

-- with so much left of the bound: each end is that of its instance, the verdict goes by the ends, and no reader took more
-- than was given
pub record IsConcluded (s : RunState) (bound budget : ℕ) (halted : Bool) (v : Verdict) (ends : List End) : Type 0 where
  pub last : IsLast s bound budget halted ends
  pub rule : IsVerdict halted ends v
  pub within : TookNoMore s.network s.input s.cells

-- these are the streams of the answer
pub record AreStreams (s : RunState) (streams : List Stream) (lines : List Line) : Type 0 where
  pub named : map stream_line streams ≡ lines
  pub each : (j : ℕ) (x : Stream) → slice_get streams j ≡ Some x → IsFrom s.network s.input s.watch s.cells (source s.network x.line) x.line x.tokens.items
