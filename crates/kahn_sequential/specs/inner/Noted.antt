-- Inner. Ends that were noted, and the instances that were woken since.
use Rattle.std.specs.Prelude.{◌≡◌, ◌⊎◌, ℕ, ◌<◌, false, true, List, length, Option, Some, None, slice_get}
use Rattle.kahn_sequential.specs.inner.Below.{End, More, Schema, Reads, Tapped, Writes, actual_at, instance_at, waiting_of}
use Rattle.kahn_sequential.specs.inner.Bench.{HasEndIn, RunState}
use Rattle.kahn_sequential.specs.inner.Workbench.{IsSpent, IsSpentTap, Table, sight_of}
use Rattle.kahn_sequential.specs.declared.{rounds.Round.Round, taps.Woken.Woken}

abbrev pub IsWoken : Woken → ℕ → Type 0
IsWoken w p = (k : ℕ) × (slice_get w.instances.items k ≡ Some p)

-- as far as it is known: those that were woken stay so, and so are these
abbrev pub HasWoken : (ℕ → Type 0) → Woken → Woken → Type 0
HasWoken P old new = new.known ≡ true → (old.known ≡ true) × ((p : ℕ) → IsWoken old p ⊎ P p → IsWoken new p)

-- one of them was taken, or there is none
abbrev pub IsTakenFrom : Woken → Option ℕ → Woken → Type 0
IsTakenFrom old None new = (new.known ≡ old.known) × ((p : ℕ) → IsWoken old p → ⊥)
IsTakenFrom old (Some r) new = (new.known ≡ old.known) × ((p : ℕ) → IsWoken old p → (p ≡ r) ⊎ IsWoken new p)

-- it reads channel c
abbrev pub IsReaderOf : Schema → ℕ → ℕ → Type 0
IsReaderOf N c p = (q : ℕ) × (actual_at (instance_at N p) q ≡ Reads c)

-- nobody else does
abbrev pub IsOnlyReader : Schema → ℕ → Option ℕ → Type 0
IsOnlyReader N c None = (p : ℕ) → IsReaderOf N c p → ⊥
IsOnlyReader N c (Some r) = (p : ℕ) → IsReaderOf N c p → p ≡ r

-- another one reads something that waits on this channel
abbrev pub IsReadyAt : Table → ℕ → ℕ → ℕ → Type 0
IsReadyAt b r c p = (p ≡ r → ⊥) × (0 < waiting_of (slice_get b.queues.queues c)) × IsReaderOf (sight_of b).network c p

-- another one reads something that waits on the channel that r writes by this parameter, by one of the first n, or by any
abbrev pub IsReadyBy : Table → ℕ → ℕ → ℕ → Type 0
IsReadyBy b r q p = (c : ℕ) × (actual_at (instance_at (sight_of b).network r) q ≡ Writes c) × IsReadyAt b r c p

abbrev pub IsReadyByFirst : Table → ℕ → ℕ → ℕ → Type 0
IsReadyByFirst b r n p = (q : ℕ) × (q < n) × IsReadyBy b r q p

abbrev pub IsReadyBehind : Table → ℕ → ℕ → Type 0
IsReadyBehind b r p = (q : ℕ) × IsReadyBy b r q p

-- this is its end, and it can't go on
abbrev pub IsAtRest : RunState → ℕ → End → Type 0
IsAtRest s p x = HasEndIn s p x × (x.outcome ≡ More → ⊥)

-- each of the ends is that of its instance at rest, unless that was woken since, or it is this one
abbrev pub AreNotedBut : (ℕ → Type 0) → RunState → Woken → List End → Type 0
AreNotedBut P s w ends =
    w.known ≡ true → (length ends ≡ length s.network.instances)
    × ((p : ℕ) (x : End) → slice_get ends p ≡ Some x → (IsAtRest s p x ⊎ IsWoken w p) ⊎ P p)

abbrev pub AreNoted : RunState → Woken → List End → Type 0
AreNoted s w ends = AreNotedBut (λ p. ⊥) s w ends

-- each of the taps has let go of all that it kept, but those of these instances
abbrev pub AreSpentBut : Woken → List Tapped → Type 0
AreSpentBut w taps = (p : ℕ) (x : Tapped) → slice_get taps p ≡ Some x → IsWoken w p ⊎ IsSpentTap x

-- as far as it is known: each instance has, unless it had a turn since
abbrev pub AreSpent : Table → Woken → Type 0
AreSpent b w = w.known ≡ true → (p : ℕ) → IsWoken w p ⊎ IsSpent b p

-- all are at rest, and these are their ends
pub record AreAtRest (s : RunState) (r : Round) : Type 0 where
  pub memory : r.memory ≡ false
  pub size : length r.ends.items ≡ length s.network.instances
  pub each : (p : ℕ) (x : End) → slice_get r.ends.items p ≡ Some x → IsAtRest s p x
