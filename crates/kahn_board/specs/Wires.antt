-- Believed. What the rule reads of a network, and what a cell reports of itself, for contracts alone.
use Rattle.std.specs.List.{list_any}
use Rattle.std.specs.Prelude.{ℕ, length, position, Bool, false, ◌==◌, Option, ◌≡◌, ◌+◌, ◌≤◌, true, Some, None, IfSome}
use Rattle.kahn_streams.specs.{declared.tree.Program.Program, Network.Actual, Network.Reads, Network.Writes, Network.Hands, Network.is_written, Network.network_of}

-- how many instances and channels there are, and who reads and who writes each channel
pub record Wires : Type 0 where
  pub instances : ℕ
  pub channels : ℕ
  pub reader : ℕ → Option ℕ
  pub writer : ℕ → Option ℕ

abbrev pub is_read : Actual → ℕ → Bool
is_read (Reads d) c = d == c
is_read (Writes d) c = false
is_read (Hands v) c = false

-- those of a program's network: the reader is the first instance to which the channel is handed to be read, and the writer the first to which it is handed to be written
unfoldable pub wires : Program → Wires
wires program = record {
  instances = length (network_of program).instances;
  channels = length (network_of program).channels;
  reader = λ c. position (λ i. list_any (λ a. is_read a c) i.actuals) (network_of program).instances;
  writer = λ c. position (λ i. list_any (λ a. is_written a c) i.actuals) (network_of program).instances;
}

-- what a cell reports
pub record Summary : Type 0 where
  pub events : ℕ
  pub has_ended : Bool
  -- the channel on which it waits
  pub waits : Option ℕ
  -- how many tokens it took from the channel
  pub taken : ℕ → ℕ
  -- how many tokens it sent into the channel, and how many of them it flushed, if it writes it
  pub wrote : ℕ → Option (ℕ × ℕ)

-- a cell that reports nothing meets all of these
abbrev pub TellsWait : Option Summary → ℕ → ℕ → Type 0
TellsWait told c k = IfSome told (λ t. (t.waits ≡ Some c) × (t.taken c ≡ k))

abbrev pub TellsEnd : Option Summary → Type 0
TellsEnd told = IfSome told (λ t. t.has_ended ≡ true)

abbrev pub wrote_of : Option Summary → ℕ → Option (ℕ × ℕ)
wrote_of None c = None
wrote_of (Some t) c = t.wrote c

abbrev pub second_of : Option (ℕ × ℕ) → Option ℕ
second_of None = None
second_of (Some x) = Some x.1

abbrev pub flushed_of : Option Summary → ℕ → Option ℕ
flushed_of t c = second_of (wrote_of t c)

-- all that it sent is flushed
abbrev pub FlushedAll : Option Summary → Type 0
FlushedAll t = (c k l : ℕ) → wrote_of t c ≡ Some (k, l) → k ≡ l

abbrev pub TellsEvents : Option Summary → ℕ → Type 0
TellsEvents told k = IfSome told (λ t. t.events ≡ k)

-- its events, or k, those before, if it reports nothing
abbrev pub events_past : Option Summary → ℕ → ℕ
events_past None k = k
events_past (Some t) k = t.events

-- its events past k are among those reported as done
abbrev pub Accounts : Option Summary → ℕ → ℕ → Type 0
Accounts told k untold = IfSome told (λ t. (k ≤ t.events) × (t.events ≤ k + untold))
