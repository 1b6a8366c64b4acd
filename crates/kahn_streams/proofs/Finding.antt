-- From a truncated fact that a value stands to where it stands: the first iterate that is long enough has it.
use Rattle.kahn_streams.proofs.Common.{subst, sym, ∥∥₁_elim, ∥∥₁_prop, slice_get_within, slice_get-get_or, ◌≡◌, ℕ, ◌<◌, get_or, length, ap, ◌∙◌, Some, slice_get, Value, Line, Schema, Inputs, iterate, Stands}
use Rattle.std.proofs.Math.{Decide.dec_lt, Bridge.to_ℕ, Bridge.from_ℕ, Bridge.from_ℕ-to_ℕ}
use mathlib.Mathlib.Data.Nat.Find.{find_x}
use Rattle.std.specs.Coded.{Coded-set}
use Rattle.kahn_streams.specs.contracts.value.Value as value
use Rattle.kahn_streams.proofs.Proved.{one_value}

pub found : (N : Schema) (I : Inputs) (c : Line) (k : ℕ) (v : Value) → ∥ (Stands N I c k v) ∥₁ → Stands N I c k v
found N I c k v t = (at.0, have ∙ ap Some same)
  where
    at : (n : ℕ) × (k < length (iterate N I n c))
    at =
        let within = λ (n : ℕ). k < length (iterate N I n c) in
        let x = find_x (λ n. dec_lt k (length (iterate N I (from_ℕ n) c)))
        (∥∥₁_elim t ∥∥₁_prop (λ s. ∣ (to_ℕ s.0, subst within (sym (from_ℕ-to_ℕ s.0)) (slice_get_within (iterate N I s.0 c) k v s.1)) ∣₁)) in
        (from_ℕ x.0, x.1.0)

    have : slice_get (iterate N I at.0 c) k ≡ Some (get_or (iterate N I at.0 c) k v)
    have = slice_get-get_or (iterate N I at.0 c) k v at.1

    same : get_or (iterate N I at.0 c) k v ≡ v
    same =
        ∥∥₁_elim t (Coded-set value.the_row.coded (get_or (iterate N I at.0 c) k v) v)
        (λ s. one_value N I c k (get_or (iterate N I at.0 c) k v) v (at.0, have) s)
