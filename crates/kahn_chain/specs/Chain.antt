-- Believed. Why an instance of a network goes no further. Each instance waits on at most one channel, which has at most one writer, so
-- its waits are one chain.
use Rattle.std.specs.Prelude.{◌≡◌, ℕ, ◌<◌, ◌≤◌, List, Bool, true, false, length, Some, slice_get}
use Rattle.kahn_streams.specs.{Network.Schema, Network.Given, Network.Written, Network.channel_source, declared.answer.End.End, declared.answer.Outcome.Outcome}
use Rattle.kahn_streams.specs.declared.answer.Outcome.TheVariants as outcome
use Rattle.kahn_chain.specs.{declared.reason.Standing.Standing, declared.reason.Standing.TheVariants.Ended, declared.reason.Standing.TheVariants.Waits, declared.reason.Standing.TheVariants.Faulted, declared.reason.Standing.TheVariants.More, declared.reason.Cause.Cause, declared.reason.Cause.TheVariants.Input, declared.reason.Cause.TheVariants.Stopped, declared.reason.Cause.TheVariants.Ring}

-- the standing of an instance with this outcome, or this end
abbrev pub standing_of : Outcome → Standing
standing_of outcome.Ended = Ended
standing_of (outcome.Waits c) = Waits c
standing_of (outcome.Faulted k) = Faulted
standing_of outcome.More = More

abbrev pub stands : End → Standing
stands x = standing_of x.outcome

-- the list has each instance's standing, and each waits on a channel of the network
pub record AreStandings (N : Schema) (ss : List Standing) : Type 0 where
  pub each : length ss ≡ length N.instances
  pub channels : (p c : ℕ) → slice_get ss p ≡ Some (Waits c) → c < length N.channels

-- instance p waits on channel c, which instance w writes
abbrev pub Awaits : Schema → List Standing → ℕ → ℕ → ℕ → Type 0
Awaits N ss p c w = (slice_get ss p ≡ Some (Waits c)) × (channel_source N c ≡ Written w)

-- from one instance to another by such waits
pub data Leads (N : Schema) (ss : List Standing) : ℕ → ℕ → Type 0 where
  stays : {p : ℕ} → Leads N ss p p
  onward : {p c w z : ℕ} → Awaits N ss p c w → Leads N ss w z → Leads N ss p z

-- from one instance to another by at least one
abbrev pub LeadsOn : Schema → List Standing → ℕ → ℕ → Type 0
LeadsOn N ss p z = (c w : ℕ) × Awaits N ss p c w × Leads N ss w z

-- these instances wait on one another in a ring, and z has the least number of them
pub record IsLeastOfRing (N : Schema) (ss : List Standing) (z : ℕ) : Type 0 where
  pub ring : LeadsOn N ss z z
  pub least : (w : ℕ) → Leads N ss z w → z ≤ w

abbrev pub IsNoWait : Standing → Type 0
IsNoWait Ended = Unit {0}
IsNoWait (Waits c) = ⊥
IsNoWait Faulted = Unit {0}
IsNoWait More = Unit {0}

-- why p goes no further: the one that waits on an input, or that doesn't wait, or the first of a ring, by number
abbrev pub IsCause : Schema → List Standing → ℕ → Cause → Type 0
IsCause N ss p (Input z c) = Leads N ss p z × (slice_get ss z ≡ Some (Waits c)) × (channel_source N c ≡ Given)
IsCause N ss p (Stopped z s) = Leads N ss p z × (slice_get ss z ≡ Some s) × IsNoWait s
IsCause N ss p (Ring z) = Leads N ss p z × IsLeastOfRing N ss z

-- the mark says whether the waits of p lead back to it
abbrev pub IsRingMark : Schema → List Standing → ℕ → Bool → Type 0
IsRingMark N ss p true = LeadsOn N ss p p
IsRingMark N ss p false = LeadsOn N ss p p → ⊥

-- one mark for each instance
pub record AreRings (N : Schema) (ss : List Standing) (marks : List Bool) : Type 0 where
  pub each : length marks ≡ length ss
  pub rings : (p : ℕ) (mark : Bool) → slice_get marks p ≡ Some mark → IsRingMark N ss p mark

-- whether instances wait on one another in a ring
abbrev pub HasRing : Schema → List Standing → Bool → Type 0
HasRing N ss true = (p : ℕ) × LeadsOn N ss p p
HasRing N ss false = (p : ℕ) → LeadsOn N ss p p → ⊥
