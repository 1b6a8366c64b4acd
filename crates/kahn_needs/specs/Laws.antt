-- Believed. The laws of needs.
use Rattle.std.specs.Prelude.{◌≡◌, ◌↔◌, ℕ, ◌+◌, ◌≤◌, ◌<◌, List, length, slice_get, Some}
use Rattle.kahn_streams.specs.{declared.value.Value.Value, declared.value.Line.Line, declared.value.Line.TheVariants.Channel, declared.answer.End.End, declared.answer.Verdict.Verdict, Network.Schema, Network.Reads, Network.instance_at, Network.actual_at, Network.Given, Network.Written, Answers.AreRight}
use Rattle.kahn_streams.specs.Solution.{Histories, Inputs, source, out, exec_at, tapes_of, IsPrefix, iterate, Stands, AreInputsExtended}
use Rattle.kahn_needs.specs.Needs.{Cut, first_values, held_in, Suffices, IsCutWithin, AreNeeds}

-- a larger cut holds longer histories, and each of them begins the solution's
pub record AreParts (N : Schema) (I : Inputs) : Type 0 where
  pub more : (x y : Cut) → IsCutWithin x y → (n : ℕ) (c : Line) → IsPrefix (held_in N I x n c) (held_in N I y n c)
  pub begin : (x : Cut) (n : ℕ) (c : Line) → (m : ℕ) × IsPrefix (held_in N I x n c) (iterate N I m c)

-- what stands has needs
abbrev pub HaveNeeds : Schema → Inputs → Type 0
HaveNeeds N I = (c : Line) (k : ℕ) (v : Value) → Stands N I c k v → (x : Cut) × AreNeeds N I c k v x

-- and one cut alone
abbrev pub AreOneCut : Schema → Inputs → Type 0
AreOneCut N I = (c : Line) (k : ℕ) (v w : Value) (x y : Cut) → AreNeeds N I c k v x → AreNeeds N I c k w y → x ≡ y

-- with inputs that begin with the values told it stands, whatever else comes
abbrev pub AreEnough : Schema → Type 0
AreEnough N =
    (I J : Inputs) (c : Line) (k : ℕ) (v : Value) (x : Cut) → AreNeeds N I c k v x → ((d : ℕ) → IsPrefix (first_values x.values I d) (J d)) → Stands N J c k v

-- on shorter inputs it stands just where each has the number of values told
abbrev pub AreExact : Schema → Type 0
AreExact N =
    (I J : Inputs) (c : Line) (k : ℕ) (v : Value) (x : Cut) → AreNeeds N I c k v x → AreInputsExtended J I →
    Stands N J c k v ↔ ((d : ℕ) → x.values d ≤ length (J d))

-- histories that begin the solution's, of the inputs no more than the cut's values, and of each other line no more than its writer sends on them
-- with the cut's events: what any run may have made with so much
pub record IsMadeIn (N : Schema) (I : Inputs) (y : Cut) (A : Histories) : Type 0 where
  pub below : (c : Line) → (m : ℕ) × IsPrefix (A c) (iterate N I m c)
  pub given : (d : ℕ) → source N (Channel d) ≡ Given → length (A (Channel d)) ≤ y.values d
  pub written : (c : Line) (p : ℕ) → source N c ≡ Written p → IsPrefix (A c) (out N (y.events p) p A c)

-- who has the value has done its needs, and who has made histories with the value has enough for it
pub record AreForRuns (N : Schema) (I : Inputs) (y : Cut) (A : Histories) (c : Line) (k : ℕ) (v : Value) : Type 0 where
  pub needed : (x : Cut) → AreNeeds N I c k v x → IsCutWithin x y
  pub suffices : Suffices N I c k v y

abbrev pub AreRunsNeeds : Schema → Inputs → Type 0
AreRunsNeeds N I = (y : Cut) (A : Histories) → IsMadeIn N I y A → (c : Line) (k : ℕ) (v : Value) → slice_get (A c) k ≡ Some v → AreForRuns N I y A c k v

-- so in every right answer that has the value, whatever its bound and its verdict, each instance has done the events told
abbrev pub AreDone : Schema → Inputs → Type 0
AreDone N I =
    (c : Line) (k : ℕ) (v : Value) (x : Cut) → AreNeeds N I c k v x →
    (bound : ℕ) (verdict : Verdict) (ends : List End) (events : ℕ) (run : AreRight N I bound verdict ends events) → slice_get (run.tapes c) k ≡ Some v →
    (p : ℕ) (end : End) → slice_get ends p ≡ Some end → x.events p ≤ end.events

-- inputs that begin with the values told have the same needs, whatever else comes
abbrev pub AreSameNeeds : Schema → Type 0
AreSameNeeds N =
    (I J : Inputs) (c : Line) (k : ℕ) (v : Value) (x : Cut) → AreNeeds N I c k v x → ((d : ℕ) → IsPrefix (first_values x.values I d) (J d)) → AreNeeds N J c k v x

-- it suffices, and no cut within it does that has one event or one value fewer
pub record IsTight (N : Schema) (I : Inputs) (c : Line) (k : ℕ) (v : Value) (x : Cut) : Type 0 where
  pub enough : Suffices N I c k v x
  pub no_event : (y : Cut) → IsCutWithin y x → (p : ℕ) → y.events p < x.events p → Suffices N I c k v y → ⊥
  pub no_value : (y : Cut) → IsCutWithin y x → (d : ℕ) → y.values d < x.values d → Suffices N I c k v y → ⊥

-- then it is the least
abbrev pub AreTight : Schema → Inputs → Type 0
AreTight N I = (c : Line) (k : ℕ) (v : Value) (x : Cut) → AreNeeds N I c k v x ↔ IsTight N I c k v x

-- a value needs all that those before it on its line need
abbrev pub AreInOrder : Schema → Inputs → Type 0
AreInOrder N I = (c : Line) (j k : ℕ) (v w : Value) (x y : Cut) → j ≤ k → AreNeeds N I c j v x → AreNeeds N I c k w y → IsCutWithin x y

-- ---- how needs are found

-- with e events on H instance p has sent more than k values on line c, and with fewer it hasn't
pub record IsShortest (N : Schema) (p : ℕ) (c : Line) (k e : ℕ) (H : Histories) : Type 0 where
  pub there : k < length (out N e p H c)
  pub sooner : (j : ℕ) → j < e → length (out N j p H c) ≤ k

-- with them it has taken the value at place j at its parameter q
abbrev pub IsTakenBy : Schema → ℕ → ℕ → Histories → ℕ → ℕ → Type 0
IsTakenBy N p e H q j = j + length ((exec_at N e p H).left q) < length (tapes_of (instance_at N p) H q)

-- a value of an input wants so many values. A value that an instance sends wants the events of its shortest run to it, on any histories that
-- have what this run takes, and what each value wants that this run takes.
pub record GoBack (N : Schema) (I : Inputs) : Type 0 where
  pub given : (d k : ℕ) (v : Value) (y : Cut) → source N (Channel d) ≡ Given → slice_get (I d) k ≡ Some v → Suffices N I (Channel d) k v y ↔ (k < y.values d)
  pub written : (c : Line) (p k e : ℕ) (v : Value) (H : Histories) (y : Cut) → source N c ≡ Written p → ((d : Line) → (m : ℕ) × IsPrefix (H d) (iterate N I m d)) →
      IsShortest N p c k e H → Stands N I c k v →
      Suffices N I c k v y
      ↔ ((e ≤ y.events p)
      × ((q d j : ℕ) (w : Value) → actual_at (instance_at N p) q ≡ Reads d → IsTakenBy N p e H q j → slice_get (H (Channel d)) j ≡ Some w → Suffices N I (Channel d) j w y))
