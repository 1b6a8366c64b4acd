-- Believed. What contracts see of the plain queue of a channel, and of those of all channels.
use Rattle.std.specs.Prelude.{◌≡◌, ℕ, ◌+◌, ◌==◌, List, [], ◌++◌, length, Option, Some, None, slice_get, if◌then◌else◌}
use Rattle.kahn_code.specs.Common.{Program, Lists, Role, Value, Actual, Reads, Writes, Hands, network_of, instance_at, actual_at, role_at, IsWellWired, Inner, Input, Output, inputs_of}

-- of which network, input and channel its tokens are; how many were taken; how many wait, and how many of these are still read where the
-- input has them; for how many more there is room
pub record Waiting : Type 0 where
  pub network : Program
  pub input : Lists
  pub channel : ℕ
  pub taken : ℕ
  pub waiting : ℕ
  pub lent : ℕ
  pub spare : ℕ

-- the same queue, in which so many tokens more wait
abbrev pub HasMore : ℕ → Waiting → Waiting → Type 0
HasMore n old new =
    (new.network ≡ old.network) × (new.input ≡ old.input) × (new.channel ≡ old.channel) × (new.taken ≡ old.taken) × (new.waiting ≡ old.waiting + n)

-- the network and the input, the instance whose ports they are now, and the queue of each channel
pub record Lines : Type 0 where
  pub network : Program
  pub input : Lists
  pub instance : ℕ
  pub queues : List Waiting

abbrev pub taken_of : Option Waiting → ℕ
taken_of None = 0
taken_of (Some w) = w.taken

abbrev pub waiting_of : Option Waiting → ℕ
waiting_of None = 0
waiting_of (Some w) = w.waiting

abbrev pub given_of : Option Waiting → ℕ
given_of None = 0
given_of (Some w) = w.taken + w.waiting

abbrev pub spare_of : Option Waiting → ℕ
spare_of None = 0
spare_of (Some w) = w.spare

-- the next place of a parameter: of what is taken, or of what is given
abbrev pub next_at : List Waiting → Actual → ℕ
next_at queues (Reads c) = taken_of (slice_get queues c)
next_at queues (Writes c) = given_of (slice_get queues c)
next_at queues (Hands v) = 0

abbrev pub actual_here : Lines → ℕ → Actual
actual_here s q = actual_at (instance_at (network_of s.network) s.instance) q

-- the actual is this channel
abbrev pub Joins : Actual → ℕ → Type 0
Joins (Reads d) c = d ≡ c
Joins (Writes d) c = d ≡ c
Joins (Hands v) c = ⊥

-- the channel of an actual, if it is one
abbrev pub route_of : Actual → Option ℕ
route_of (Reads c) = Some c
route_of (Writes c) = Some c
route_of (Hands v) = None

-- the queue of the channel of an actual, if it is one
abbrev pub queue_of : List Waiting → Actual → Option Waiting
queue_of queues (Reads c) = slice_get queues c
queue_of queues (Writes c) = slice_get queues c
queue_of queues (Hands v) = None

-- the queue of channel c: what was put on an input channel is its list
pub record IsQueue (t : Program) (lists : Lists) (c : ℕ) (w : Waiting) : Type 0 where
  pub network : w.network ≡ t
  pub input : w.input ≡ lists
  pub channel : w.channel ≡ c
  pub given : role_at (network_of t) c ≡ Input → w.taken + w.waiting ≡ length (inputs_of lists c)

-- the queue of each channel of a well wired network
pub record AreQueued (s : Lines) : Type 0 where
  pub wired : IsWellWired s.network
  pub count : length s.queues ≡ length (network_of s.network).channels
  pub each : (c : ℕ) (w : Waiting) → slice_get s.queues c ≡ Some w → IsQueue s.network s.input c w

-- the next place of a parameter of an instance
abbrev pub place_at : Lines → ℕ → ℕ → ℕ
place_at s p q = next_at s.queues (actual_at (instance_at (network_of s.network) p) q)

-- how many tokens a queue has at the start: the values of an input channel
abbrev pub at_first : Role → List Value → ℕ
at_first Input values = length values
at_first Inner values = 0
at_first Output values = 0

-- the queue of channel c before anything was taken or put
pub record IsFirst (t : Program) (lists : Lists) (c : ℕ) (w : Waiting) : Type 0 where
  pub network : w.network ≡ t
  pub input : w.input ≡ lists
  pub channel : w.channel ≡ c
  pub taken : w.taken ≡ 0
  pub waiting : w.waiting ≡ at_first (role_at (network_of t) c) (inputs_of lists c)

-- a queue for each channel, before anything was taken or put
pub record AreFirst (t : Program) (lists : Lists) (queues : List Waiting) : Type 0 where
  pub count : length queues ≡ length (network_of t).channels
  pub each : (c : ℕ) (w : Waiting) → slice_get queues c ≡ Some w → IsFirst t lists c w

-- the lists after have these values after those of channel c, and are else as before
abbrev pub IsPoured : Lists → ℕ → List Value → Lists → Type 0
IsPoured before c values after = (d : ℕ) → inputs_of after d ≡ inputs_of before d ++ (if c == d then values else [])

-- the queues go on for this input: so many tokens more wait in the queue of channel c, and else as many as before
pub record HasPoured (c n : ℕ) (input : Lists) (old new : Lines) : Type 0 where
  pub network : new.network ≡ old.network
  pub lists : new.input ≡ input
  pub instance : new.instance ≡ old.instance
  pub taken : (d : ℕ) → taken_of (slice_get new.queues d) ≡ taken_of (slice_get old.queues d)
  pub waiting : (d : ℕ) → waiting_of (slice_get new.queues d) ≡ waiting_of (slice_get old.queues d) + (if c == d then n else 0)
