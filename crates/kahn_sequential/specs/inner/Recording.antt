-- Inner. What is kept of the channels in a run on one thread, beside its bench.
use Rattle.std.specs.declared.{alloc.Global.Global, vec.Vec.Vec}
use Rattle.std.specs.Prelude.{◌≡◌, ◌⊎◌, ℕ, ◌<◌, ◌≤◌, List, length, Option, Some, slice_get}
use Rattle.kahn_sequential.specs.inner.Below.{AreKeptTokens, Channel, Inner, Input, Inputs, IsOf, IsReader, IsRight, IsWriter, Lists, Schema, Program, Queues, Reads, Side, StoodBy, Stream, Token, Waiting, Writes, actual_at, given_of, inputs_of, instance_at, network_of, role_at, source, taken_of}
use Rattle.kahn_sequential.specs.{Recordings.AreCountsIn, Recordings.AreHistoriesIn, declared.counted.Count.Count, declared.counted.Counted.Counted, inner.Bench.RunState, inner.Gathered.IsGiven, inner.Gathered.view_at, inner.Streams.IsOpenStream, inner.Workbench.Table}

-- what the cell of p says of its process is true
abbrev pub StoodIn : RunState → ℕ → Type 0
StoodIn s p = StoodBy s.network s.input s.watch p (view_at s.cells p)

-- ---- turns

-- the process that writes channel c doesn't read it
abbrev pub HasOthers : Schema → ℕ → Type 0
HasOthers N c = (w : Side) → IsWriter N c w → (r : Side) → IsReader N c r → r.instance ≡ w.instance → ⊥

-- no process reads a channel that it writes
abbrev pub ReadsNoOwn : Schema → Type 0
ReadsNoOwn N = (c : ℕ) → c < length N.channels → HasOthers N c

-- a turn has one event at most, or else no process takes in it what it sends
abbrev pub TakesTurns : Schema → ℕ → Type 0
TakesTurns N quantum = (quantum ≤ 1) ⊎ ReadsNoOwn N

-- ---- streams

-- tokens of channel c from its first place on, of this network and this input
abbrev pub AreTokensOf : Program → Lists → ℕ → List Token → Type 0
AreTokensOf t lists c ts = (k : ℕ) (x : Token) → slice_get ts k ≡ Some x → IsOf t lists x × (x.line ≡ Channel c) × (x.place ≡ k)

-- so many of the tokens that were put into a queue, and all that were taken
abbrev pub IsWithinQueue : Option Waiting → ℕ → Type 0
IsWithinQueue w n = (taken_of w ≤ n) × (n ≤ given_of w)

-- the stream of channel c: the list of an input; of one between processes tokens from its first place on
pub record IsSentOn (t : Program) (lists : Lists) (c : ℕ) (x : Stream) : Type 0 where
  pub line : x.line ≡ Channel c
  pub input : role_at (network_of t) c ≡ Input → AreKeptTokens (network_of t) (inputs_of lists) (Channel c) (inputs_of lists c) x.tokens.items
  pub inner : role_at (network_of t) c ≡ Inner → AreTokensOf t lists c x.tokens.items

-- and all that was put into the queue
pub record IsRecorded (t : Program) (q : Queues) (c : ℕ) (x : Stream) : Type 0 where
  pub is : IsSentOn t q.input c x
  pub all : role_at (network_of t) c ≡ Inner → length x.tokens.items ≡ given_of (slice_get q.queues c)

-- and all of it but what was put there last, of which nothing was taken
pub record IsTurnShort (t : Program) (q : Queues) (c : ℕ) (x : Stream) : Type 0 where
  pub names : q.network ≡ t
  pub is : IsSentOn t q.input c x
  pub within : role_at (network_of t) c ≡ Inner → IsWithinQueue (slice_get q.queues c) (length x.tokens.items)

-- of all channels
pub record AreRecordedOf (t : Program) (q : Queues) (streams : List Stream) : Type 0 where
  pub count : length streams ≡ length (network_of t).channels
  pub each : (c : ℕ) (x : Stream) → slice_get streams c ≡ Some x → IsRecorded t q c x

pub record AreTurnShortOf (t : Program) (q : Queues) (streams : List Stream) : Type 0 where
  pub count : length streams ≡ length (network_of t).channels
  pub each : (c : ℕ) (x : Stream) → slice_get streams c ≡ Some x → IsTurnShort t q c x

abbrev pub AreRecorded : Table → List Stream → Type 0
AreRecorded b streams = AreRecordedOf b.network b.queues streams

-- ---- streams that a run may have for what it records

abbrev pub Recording : Type 0
Recording = Option (Vec Stream Global)

abbrev pub IsTurnRecording : Table → Recording → Type 0
IsTurnRecording b r = (v : Vec Stream Global) → r ≡ Some v → AreTurnShortOf b.network b.queues v.items

abbrev pub HasRecorded : Table → Recording → Type 0
HasRecorded b r = (v : Vec Stream Global) → r ≡ Some v → AreRecorded b v.items

-- it may go on, with so many events a turn
abbrev pub IsRecording : Table → ℕ → Recording → Type 0
IsRecording b quantum r = (v : Vec Stream Global) → r ≡ Some v → AreRecorded b v.items × TakesTurns (network_of b.network) quantum

-- there are none where there were none
abbrev pub IsKeptFrom : Recording → Recording → Type 0
IsKeptFrom old new = (v : Vec Stream Global) → new ≡ Some v → (w : Vec Stream Global) × (old ≡ Some w)

-- the streams of the first n channels before the first event
pub record AreOpenChannels (t : Program) (lists : Lists) (streams : List Stream) (n : ℕ) : Type 0 where
  pub count : length streams ≡ n
  pub each : (c : ℕ) (x : Stream) → slice_get streams c ≡ Some x → (x.line ≡ Channel c) × IsOpenStream (network_of t) (inputs_of lists) x

-- ---- the end

-- so many values were given to channel c
abbrev pub HasGiven : RunState → ℕ → ℕ → Type 0
HasGiven s c n = IsGiven s.network s.input s.cells c (source s.network (Channel c)) n

-- and so many its reader has taken
pub record IsCountOf (s : RunState) (c : ℕ) (n : Count) : Type 0 where
  pub sent : HasGiven s c n.sent
  pub taken : (p q : ℕ) → actual_at (instance_at s.network p) q ≡ Reads c → n.taken ≡ (view_at s.cells p).taken q

-- those of the first n channels
pub record AreCountsOf (s : RunState) (counts : List Count) (n : ℕ) : Type 0 where
  pub count : length counts ≡ n
  pub each : (c : ℕ) (x : Count) → slice_get counts c ≡ Some x → IsCountOf s c x

-- streams before the first event, for turns of so many events
abbrev pub MayRecord : Program → Lists → ℕ → Recording → Type 0
MayRecord t lists quantum r =
    (v : Vec Stream Global) → r ≡ Some v → AreOpenChannels t lists v.items (length (network_of t).channels) × TakesTurns (network_of t) quantum

-- a right answer of this network and input for so many events, with the counts of its channels, and with their histories where there are
-- streams for them
abbrev pub IsKeptAlone : Program → Lists → Option ℕ → ℕ → Counted → Recording → Type 0
IsKeptAlone t lists watch bound x r =
    (right : IsRight (network_of t) (inputs_of lists) bound watch x.answer) × AreCountsIn right.run x.counts.items
    × ((v : Vec Stream Global) → r ≡ Some v → AreHistoriesIn right.run v.items)
