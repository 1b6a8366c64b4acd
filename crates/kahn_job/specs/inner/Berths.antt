-- Inner. What contracts see of the ends of an instance's channels, of those of all instances, and of the two of each channel.
use Rattle.std.specs.Prelude.{◌≡◌, ◌⊎◌, ◌<◌, ◌≤◌}
use Rattle.kahn_job.specs.inner.Words.{ℕ, true, false, List, [], length, map, None, Some, slice_index_or, Unit-prop, props, Program, Side, Input, Schema, Actual, Reads, Writes, Hands, network_of, instance_at, actual_at, role_at, Lists, inputs_of, is_output, LaneName, lane_name, name-prop}
use Rattle.kahn_job.specs.{inner.Ends.TaskEnd, inner.Ends.Identity, inner.Ends.IsSame, inner.Ends.IsReady, inner.Ends.IsBehind, inner.Ends.ShareLane, inner.Ends.identity_of, inner.Ways.no_end}

abbrev pub end_at : List TaskEnd → ℕ → TaskEnd
end_at ends q = slice_index_or ends q no_end

-- the end is that of the channel that is handed over, and `so` holds of them; an input channel has no lane
abbrev pub ServesSo : (ℕ → TaskEnd → Type 0) → Program → Actual → TaskEnd → Type 0
ServesSo so t (Reads d) e = (e.reads ≡ true) × so d e × (role_at (network_of t) d ≡ Input → e.lane ≡ None)
ServesSo so t (Writes d) e = is_output (role_at (network_of t) d) ≡ false → (e.writes ≡ true) × so d e
ServesSo so t (Hands v) e = Unit {0}

-- its tokens are those of this input
abbrev pub Serves : Program → Lists → Actual → TaskEnd → Type 0
Serves t lists = ServesSo (λ d e. e.name ≡ Some (lane_name t lists d)) t

pub Serves-prop : (t : Program) (lists : Lists) (a : Actual) (e : TaskEnd) → IsProp (Serves t lists a e)
Serves-prop t lists (Reads d) e = Prim.hlevel (props, name-prop)
Serves-prop t lists (Writes d) e = Prim.hlevel (props, name-prop)
Serves-prop t lists (Hands v) e = Unit-prop

-- a channel of which it is an end is one of this network, for this input
abbrev pub IsFor : Program → Lists → TaskEnd → Type 0
IsFor t lists e = (n : LaneName) → e.name ≡ Some n → (n.network ≡ t) × (n.input ≡ lists)

-- what is ready at the end of an input channel is a value of its list
abbrev pub IsWithinInput : TaskEnd → Type 0
IsWithinInput e = (t : Program) (lists : Lists) (d : ℕ) → e.lane ≡ None → e.name ≡ Some (lane_name t lists d) → IsReady e → e.next < length (inputs_of lists d)

-- which ends they are
abbrev pub identities : List TaskEnd → List Identity
identities ends = map identity_of ends

-- each parameter has the end of its channel, on which no more is flushed than was put
pub record AreServed (t : Program) (lists : Lists) (p : ℕ) (ends : List TaskEnd) : Type 0 where
  pub count : length ends ≡ length (instance_at (network_of t) p).actuals
  pub each : (q : ℕ) → Serves t lists (actual_at (instance_at (network_of t) p) q) (end_at ends q)
  pub behind : (q : ℕ) → (end_at ends q).flushed ≤ (end_at ends q).next

-- they are the same ends, and nothing that was flushed is taken back
pub record HaveAdvanced (old new : List TaskEnd) : Type 0 where
  pub count : length new ≡ length old
  pub same : (q : ℕ) → IsSame (end_at old q) (end_at new q)
  pub flushed : (q : ℕ) → (end_at old q).flushed ≤ (end_at new q).flushed

-- it is the same end at the same place, and at most knows more
pub record HasStayed (old new : TaskEnd) : Type 0 where
  pub same : IsSame old new
  pub next : new.next ≡ old.next
  pub flushed : new.flushed ≡ old.flushed
  pub ready : IsReady old → IsReady new

-- it is the same end at the same place, and all that was put was flushed or as much is flushed as before
pub record HasFlushed (old new : TaskEnd) : Type 0 where
  pub same : IsSame old new
  pub next : new.next ≡ old.next
  pub flushed : (new.flushed ≡ old.flushed) ⊎ (new.flushed ≡ new.next)
  pub grows : old.flushed ≤ new.flushed

-- the same for all ends
pub record HaveFlushed (old new : List TaskEnd) : Type 0 where
  pub count : length new ≡ length old
  pub each : (q : ℕ) → HasFlushed (end_at old q) (end_at new q)

abbrev pub end_in : List (List TaskEnd) → ℕ → ℕ → TaskEnd
end_in rows p q = end_at (slice_index_or rows p []) q

-- `so` holds of the writer's and the reader's end of channel d
abbrev pub AreSoOn : (TaskEnd → TaskEnd → Type 0) → Schema → List (List TaskEnd) → ℕ → Type 0
AreSoOn so N rows d =
    (p r o q : ℕ) → actual_at (instance_at N p) o ≡ Writes d → actual_at (instance_at N r) q ≡ Reads d → so (end_in rows p o) (end_in rows r q)

-- they are the two ends of one lane, also on a channel from an instance to itself
abbrev pub AreJoinedOn : Schema → List (List TaskEnd) → ℕ → Type 0
AreJoinedOn = AreSoOn ShareLane

-- the reader is behind the writer
abbrev pub AreBehindOn : Schema → List (List TaskEnd) → ℕ → Type 0
AreBehindOn = AreSoOn IsBehind

-- the instance and the parameter exist
abbrev pub HasPlace : List (List TaskEnd) → Side → Type 0
HasPlace rows s = (s.instance < length rows) × (s.parameter < length (slice_index_or rows s.instance []))

abbrev pub end_of_side : List (List TaskEnd) → Side → TaskEnd
end_of_side rows s = end_in rows s.instance s.parameter

-- each end is at the same place, and at most knows more
pub record HaveStayed (old new : List (List TaskEnd)) : Type 0 where
  pub count : length new ≡ length old
  pub sizes : (p : ℕ) → length (slice_index_or new p []) ≡ length (slice_index_or old p [])
  pub each : (p q : ℕ) → HasStayed (end_in old p q) (end_in new p q)
