-- Believed. Why a run is refused; a run that is held between its parts: what contracts see of it, and what its calls make of it
-- (this project's profile).
use Rattle.std.specs.Prelude.{◌≡◌, ◌⊎◌, ℕ, suc, ◌+◌, ◌<◌, ◌≤◌, ◌^◌, List, [], ◌∷◌, map, sum_by, Option, Some, None, slice_get, slice_index_or, if◌then◌else◌}
use Rattle.kahn_sequential.specs.inner.Below.{Actual, Answer, AreInputsExtended, AreRight, Channel, Config, End, Entry, FeedFault, Finished, Given, HasEndAt, HasStream, Inputs, IsAllowed, IsEntryFed, IsPrefix, IsRight, IsUnrun, IsUnwelcome, IsWatched, IsWhole, Line, Lists, Schema, Print, Program, RunFault, Settles, Source, Stream, Token, CellView, Value, Verdict, Written, inputs_of, instance_at, is_written, network_of, source, stream_lines, token_value, values_of}
use Rattle.kahn_streams.specs.declared.fault.RunFault.TheVariants as fault
use Rattle.kahn_sequential.specs.declared.flow.HeldFault.{HeldFault}
use Rattle.kahn_sequential.specs.declared.flow.HeldFault.TheVariants as held

-- why a run on one thread is refused
abbrev pub IsRefusedRun : ℕ → RunFault → Type 0
IsRefusedRun bound fault.BadConfig = 2 ^ 48 ≤ bound
IsRefusedRun bound fault.NoMemory = bound < 2 ^ 48
IsRefusedRun bound f = ⊥

-- memory was wanting, or a thread for one of several workers
abbrev pub IsWant : ℕ → RunFault → Type 0
IsWant workers fault.NoMemory = Unit {0}
IsWant workers fault.NoThread = 1 < workers
IsWant workers f = ⊥

-- ---- a held run

-- the events of a process, the tokens that its cell kept of what it sent by each parameter, and those that it printed
pub record Seen : Type 0 where
  pub events : ℕ
  pub kept : List (List Token)
  pub printed : List Token

abbrev pub seen_of : CellView → Seen
seen_of c = record { events = c.events; kept = c.kept; printed = c.printed }

abbrev pub unseen : Seen
unseen = record { events = 0; kept = []; printed = [] }

abbrev pub seen_events : Seen → ℕ
seen_events c = c.events

abbrev pub seen_at : List Seen → ℕ → Seen
seen_at cells p = slice_index_or cells p unseen

pub record HeldRun : Type 0 where
  pub network : Program
  -- the input so far
  pub input : Lists
  pub watch : Option ℕ
  pub workers : ℕ
  pub quantum : ℕ
  -- the sum of all bounds so far
  pub bound : ℕ
  -- of each process: its events, and what was kept of its sends and prints
  pub cells : List Seen
  -- the verdict of the last part, where nothing changed since
  pub verdict : Option Verdict

-- the number of the first parameter by which the channel is written
abbrev pub writing : List Actual → ℕ → ℕ
writing [] c = 0
writing (a ∷ rest) c = if is_written a c then 0 else suc (writing rest c)

-- the values of a line by its source, of these inputs and of what each cell kept and printed; none if it has no source
abbrev pub values_by : Schema → Inputs → (ℕ → List (List Token)) → (ℕ → List Token) → Source → Line → List Value
values_by N I kept printed Given (Channel c) = I c
values_by N I kept printed (Written p) (Channel c) = map token_value (slice_index_or (kept p) (writing (instance_at N p).actuals c) [])
values_by N I kept printed (Written p) (Print r) = map token_value (printed p)
values_by N I kept printed s c = []

-- what was given to the line so far, by its source
abbrev pub given_so_far : HeldRun → Source → Line → List Value
given_so_far h = values_by (network_of h.network) (inputs_of h.input) (λ p. (seen_at h.cells p).kept) (λ p. (seen_at h.cells p).printed)

-- the values of the stream of a line so far
abbrev pub so_far : HeldRun → Line → List Value
so_far h c = given_so_far h (source (network_of h.network) c) c

-- the line is that of a stream of the run
abbrev pub IsLineOf : HeldRun → Line → Type 0
IsLineOf h c = (j : ℕ) × (slice_get (stream_lines (network_of h.network) h.watch) j ≡ Some c)

-- the second is the first later on: each stream of the first begins that of the second, and no instance's events go down
pub record GoesOn (old new : HeldRun) : Type 0 where
  pub network : new.network ≡ old.network
  pub watch : new.watch ≡ old.watch
  pub workers : new.workers ≡ old.workers
  pub quantum : new.quantum ≡ old.quantum
  pub input : AreInputsExtended (inputs_of old.input) (inputs_of new.input)
  pub streams : (c : Line) → IsPrefix (so_far old c) (so_far new c)
  pub events : (p : ℕ) → (seen_at old.cells p).events ≤ (seen_at new.cells p).events

-- ---- the start

-- no event is done, and nothing is answered yet
pub record HasStarted (t : Program) (lists : Lists) (config : Config) (h : HeldRun) : Type 0 where
  pub allowed : IsAllowed config
  pub watched : IsWatched t config.watch h.watch
  pub network : h.network ≡ t
  pub input : h.input ≡ lists
  pub workers : h.workers ≡ config.workers
  pub quantum : h.quantum ≡ config.quantum
  pub bound : h.bound ≡ config.bound
  pub none : (p : ℕ) → (seen_at h.cells p).events ≡ 0
  pub unsettled : h.verdict ≡ None

-- why there is none: what refuses a run, but that no thread is started
abbrev pub IsUnstarted : Program → Config → RunFault → Type 0
IsUnstarted t config fault.NoThread = ⊥
IsUnstarted t config f = IsUnrun t config f

-- ---- a part of the run

-- so many events more are allowed
pub record HasResumed (more : ℕ) (old new : HeldRun) : Type 0 where
  pub goes_on : GoesOn old new
  pub input : new.input ≡ old.input
  pub bound : new.bound ≡ old.bound + more
  pub few : old.bound + more < 2 ^ 48

-- want of memory apart, it has finished exactly if the size of the solution for the input so far is at most the bound so far
abbrev pub IsResumed : ℕ → HeldRun → HeldRun → Verdict → Type 0
IsResumed more old new v =
    HasResumed more old new × (new.verdict ≡ Some v) × Settles (network_of new.network) (inputs_of new.input) new.bound v

-- why it doesn't answer. First the sum of all bounds: it and want of memory leave all as it was
abbrev pub IsUnresumed : ℕ → HeldRun → HeldRun → HeldFault → Type 0
IsUnresumed more old new held.BadMore = (new ≡ old) × (2 ^ 48 ≤ old.bound + more)
IsUnresumed more old new held.NoMemory = (new ≡ old) × (old.bound + more < 2 ^ 48)
IsUnresumed more old new held.NoThread = HasResumed more old new × (new.verdict ≡ None) × (1 < old.workers)
IsUnresumed more old new held.Stalled = ⊥

-- ---- more input

-- the values come after those of their channel, and nothing else but the answer changes
pub record HasFed (entry : Entry) (old new : HeldRun) : Type 0 where
  pub fed : IsEntryFed old.network old.input entry new.input
  pub rest : new ≡ record old { input = new.input; verdict = None }
  pub goes_on : GoesOn old new

abbrev pub IsUnfed : Entry → HeldRun → HeldRun → FeedFault → Type 0
IsUnfed entry old new f = (new ≡ old) × IsUnwelcome old.network old.input entry f

-- ---- the answer

-- the right answer for the input so far and the bound so far
pub record IsAnswerOf (h : HeldRun) (a : Answer) : Type 0 where
  pub right : IsRight (network_of h.network) (inputs_of h.input) h.bound h.watch a
  pub verdict : h.verdict ≡ Some a.verdict
  pub streams : (s : Stream) → HasStream a s → values_of s ≡ so_far h s.line
  pub events : (p : ℕ) (x : End) → HasEndAt a p x → x.events ≡ (seen_at h.cells p).events

-- a verdict and ends that are right for the input so far and the bound so far, with the streams so far: these are the tapes of the
-- right answer, and where it has finished they are whole
pub record IsRightSoFar (h : HeldRun) (v : Verdict) (ends : List End) : Type 0 where
  pub right : AreRight (network_of h.network) (inputs_of h.input) h.bound v ends (sum_by seen_events h.cells)
  pub values : (c : Line) → IsLineOf h c → so_far h c ≡ right.tapes c
  pub whole : v ≡ Finished → (c : Line) → IsLineOf h c → IsWhole (network_of h.network) (inputs_of h.input) c (so_far h c)
  pub events : (p : ℕ) (x : End) → slice_get ends p ≡ Some x → x.events ≡ (seen_at h.cells p).events

-- ---- answers

-- a right answer for some bound, which has finished
abbrev pub HasFinished : Schema → Inputs → Option ℕ → Answer → Type 0
HasFinished N I watch a = (bound : ℕ) × IsRight N I bound watch a × (a.verdict ≡ Finished)

-- ---- many calls

-- what a call makes of the run, whatever it answers
abbrev pub IsCall : HeldRun → HeldRun → Type 0
IsCall old new =
    ((more : ℕ) × (v : Verdict) × IsResumed more old new v)
    ⊎ (((more : ℕ) × (f : HeldFault) × IsUnresumed more old new f)
    ⊎ (((entry : Entry) × HasFed entry old new)
    ⊎ ((entry : Entry) × (f : FeedFault) × IsUnfed entry old new f)))

-- calls in any order: after each the run is the next of these
abbrev pub AreCalls : HeldRun → List HeldRun → Type 0
AreCalls old [] = Unit {0}
AreCalls old (new ∷ later) = IsCall old new × AreCalls new later

-- the last of these runs
abbrev pub last_of : HeldRun → List HeldRun → HeldRun
last_of h [] = h
last_of h (new ∷ later) = last_of new later

-- the second says no less: each stream of the first is a prefix of the same stream of the second, and no instance's events
-- are fewer
pub record SaysNoLess (a b : Answer) : Type 0 where
  pub streams : (s z : Stream) → HasStream a s → HasStream b z → s.line ≡ z.line → IsPrefix (values_of s) (values_of z)
  pub events : (p : ℕ) (x y : End) → HasEndAt a p x → HasEndAt b p y → x.events ≤ y.events
