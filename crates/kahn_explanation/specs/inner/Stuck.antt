-- Inner. Instances whose chains of waits lead to a ring, or to one that has ended or faulted.
use Rattle.std.specs.Prelude.{◌≡◌, ℕ, Bool, true, Some}
use Rattle.kahn_streams.specs.{Network.Schema, Network.Reads, Network.Written, Network.actual_at, Network.instance_at, Network.channel_source, declared.value.Line.Line, Script.Dry, Script.Cut}
use Rattle.kahn_streams.specs.Solution.{AreInputsExtended, Histories, Inputs, Ending, HasEnd, IsPrefix, ending, exec_at, iterate, out, source}

-- these have ended, faulted or wait on one another, on tapes that begin the solution and with all that they sent
pub record AreStuck (N : Schema) (I : Inputs) (A : Histories) (e : ℕ → ℕ) (stuck : ℕ → Bool) : Type 0 where
  pub reached : (c : Line) → (m : ℕ) × IsPrefix (A c) (iterate N I m c)
  pub over : (p : ℕ) → stuck p ≡ true → (exec_at N (e p) p A).outcome ≡ Cut → ⊥
  pub sends : (c : Line) (p : ℕ) → stuck p ≡ true → source N c ≡ Written p → out N (e p) p A c ≡ A c
  pub waits : (p q : ℕ) → stuck p ≡ true → (exec_at N (e p) p A).outcome ≡ Dry q →
      (c w : ℕ) × (actual_at (instance_at N p) q ≡ Reads c) × (channel_source N c ≡ Written w) × (stuck w ≡ true)

-- whatever is added to the input, each of them has that end
abbrev pub AreForGood : Schema → Inputs → Histories → (ℕ → ℕ) → (ℕ → Bool) → Type 0
AreForGood N I A e stuck =
    (J : Inputs) → AreInputsExtended I J → (p : ℕ) → stuck p ≡ true → (o : Ending) →
    ending (exec_at N (e p) p A).outcome ≡ Some o → (exec_at N (e p) p A).events ≡ e p → HasEnd N J p o (e p)
