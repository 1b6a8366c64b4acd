-- Inner. The ends of channels go on with an input that has grown.
use Rattle.std.specs.Prelude.{◌≡◌, ◌⊎◌, ◌≤◌}
use Rattle.kahn_job.specs.inner.Words.{ℕ, true, false, List, [], length, None, Some, slice_index_or, Result, MatchResult, Program, Side, side_at, Actual, network_of, instance_at, actual_at, role_at, AreInputsExtended, Lists, inputs_of, is_output, Joins, LaneName, lane_name, moved_to, IsGrown}
use Rattle.kahn_job.specs.{inner.Ends.TaskEnd, inner.Ends.IsFlushed, inner.Ends.MayMeet, inner.Ends.ShareLane, inner.Berths.ServesSo, inner.Berths.AreJoinedOn, inner.Berths.end_in, inner.Berths.end_of_side}

-- it has become an end of what the name says, at the same place, and what was put is flushed
pub record HasSettled (name : LaneName) (old new : TaskEnd) : Type 0 where
  pub named : new.name ≡ Some name
  pub reads : new.reads ≡ old.reads
  pub writes : new.writes ≡ old.writes
  pub next : new.next ≡ old.next
  pub bare : old.lane ≡ None → new.lane ≡ None
  pub flushed : IsFlushed new
  pub behind : new.flushed ≤ new.next

-- the end is one of the channel, for an input whose lists begin those of this one
abbrev pub IsOfBefore : Program → Lists → ℕ → TaskEnd → Type 0
IsOfBefore t lists d e = (older : Lists) × (e.name ≡ Some (lane_name t older d)) × AreInputsExtended (inputs_of older) (inputs_of lists)

-- it is the end of the channel that is handed over, for such an input
abbrev pub ServedBefore : Program → Lists → Actual → TaskEnd → Type 0
ServedBefore t lists = ServesSo (IsOfBefore t lists) t

-- the ends of all instances, each for an input whose lists begin those of this one
pub record AreResting (t : Program) (lists : Lists) (rows : List (List TaskEnd)) : Type 0 where
  pub count : length rows ≡ length (network_of t).instances
  pub sizes : (p : ℕ) → length (slice_index_or rows p []) ≡ length (instance_at (network_of t) p).actuals
  pub each : (p q : ℕ) → ServedBefore t lists (actual_at (instance_at (network_of t) p) q) (end_in rows p q)
  pub behind : (p q : ℕ) → (end_in rows p q).flushed ≤ (end_in rows p q).next
  pub joined : (d : ℕ) → AreJoinedOn (network_of t) rows d

-- a channel that isn't an output is handed over there
abbrev pub IsCarried : Program → Actual → ℕ → Type 0
IsCarried t a d = Joins a d × (is_output (role_at (network_of t) d) ≡ false)

-- the ends of all other sides are as they were
pub record AreElsewhere (here : Side → Type 0) (old new : List (List TaskEnd)) : Type 0 where
  pub count : length new ≡ length old
  pub sizes : (p : ℕ) → length (slice_index_or new p []) ≡ length (slice_index_or old p [])
  pub others : (p q : ℕ) → (here (side_at p q) → ⊥) → end_in new p q ≡ end_in old p q

-- the ends of the channel d have become ends for this input, and all others are as they were
pub record AreSettled (t : Program) (lists : Lists) (d : ℕ) (old new : List (List TaskEnd)) : Type 0 where
  pub elsewhere : AreElsewhere (λ s. IsCarried t (actual_at (instance_at (network_of t) s.instance) s.parameter) d) old new
  pub each : (p q : ℕ) → IsCarried t (actual_at (instance_at (network_of t) p) q) d → HasSettled (lane_name t lists d) (end_in old p q) (end_in new p q)
  pub joined : AreJoinedOn (network_of t) new d

-- the end is at the same place, and nothing that was flushed there is taken back
pub record HasStood (old new : TaskEnd) : Type 0 where
  pub next : new.next ≡ old.next
  pub flushed : old.writes ≡ true → old.flushed ≤ new.flushed
  pub writes : new.writes ≡ old.writes

-- the same for all ends
abbrev pub HaveStood : List (List TaskEnd) → List (List TaskEnd) → Type 0
HaveStood old new = (p q : ℕ) → HasStood (end_in old p q) (end_in new p q)

-- ---- two ends, or one

-- they are the two ends of a lane, for an input whose lists begin those of this one
pub record CanSettle (lists : Lists) (writer reader : TaskEnd) : Type 0 where
  pub ends : MayMeet writer reader
  pub grown : (n : LaneName) × (writer.name ≡ Some n) × IsGrown n lists

-- it is the end of an input channel, for such an input
pub record CanFeed (lists : Lists) (reader : TaskEnd) : Type 0 where
  pub reads : reader.reads ≡ true
  pub bare : reader.lane ≡ None
  pub grown : (n : LaneName) × (reader.name ≡ Some n) × IsGrown n lists

-- both ends of a lane have settled
abbrev pub BothSettle : LaneName → TaskEnd → TaskEnd → TaskEnd → TaskEnd → Type 0
BothSettle name writer reader sender receiver = HasSettled name writer sender × HasSettled name reader receiver

-- the lane between the two has settled
pub record HaveExchanged (lists : Lists) (writer reader : Side) (old new : List (List TaskEnd)) : Type 0 where
  pub elsewhere : AreElsewhere (λ s. (s ≡ writer) ⊎ (s ≡ reader)) old new
  pub lane : ShareLane (end_of_side new writer) (end_of_side new reader)
  pub both : (n : LaneName) → (end_of_side old writer).name ≡ Some n →
      BothSettle (moved_to lists n) (end_of_side old writer) (end_of_side old reader) (end_of_side new writer) (end_of_side new reader)

-- the end of the input channel has settled
pub record HasExchanged (lists : Lists) (reader : Side) (old new : List (List TaskEnd)) : Type 0 where
  pub elsewhere : AreElsewhere (λ s. s ≡ reader) old new
  pub reads : (n : LaneName) → (end_of_side old reader).name ≡ Some n → HasSettled (moved_to lists n) (end_of_side old reader) (end_of_side new reader)

-- it is done so; or memory was refused, and all ends are as they were
abbrev pub GoesOrStays : {A E : Type 0} → Result A E → (List (List TaskEnd) → List (List TaskEnd) → Type 0) → List (List TaskEnd) → List (List TaskEnd) → Type 0
GoesOrStays result goes old new = MatchResult result (λ _. goes old new) (λ _. AreElsewhere (λ s. ⊥) old new)
