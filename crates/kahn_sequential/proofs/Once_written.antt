-- The parameter that writes a channel is one, and an input channel with a stream is watched.
use Rattle.kahn_sequential.proofs.Common.{arith, ◌≡◌, ℕ, suc, ◌+◌, ◌||◌, eqb-true, Some, None, Bool, true, false, List, [], ◌∷◌, refl, ap, subst, Option, slice_index_or, pos, if◌then◌else◌, Number, Program, Inner, Input, Output, Schema, Node, Actual, Hands, Reads, Role, Source, Written, Writes, any_written, channel_source, first_writer, idle, network_of, instance_at, actual_at, is_written, role_at, source_by, IsWellWired, is_streamed, is_output, is_watched, driven, writes, writing}
use Rattle.kahn_sequential.proofs.Lists.{same_writer}

-- ---- the parameter that writes a channel

abbrev none : Actual
none = Hands (Number (pos 0))

by_role : (r : Role) (s : Source) (p : ℕ) → source_by r s ≡ Written p → s ≡ Written p
by_role Input s p e = absurd cc
by_role Inner s p e = e
by_role Output s p e = e

first : (is : List Node) (m p c : ℕ) → first_writer is m c ≡ Written p → (k : ℕ) × (p ≡ m + k) × (any_written (slice_index_or is k idle).actuals c ≡ true)
first [] m p c e = absurd cc
first (i ∷ rest) m p c e = by (first rest (suc m) p c) (any_written i.actuals c) refl e
  where
    by : (first_writer rest (suc m) c ≡ Written p → (k : ℕ) × (p ≡ suc m + k) × (any_written (slice_index_or rest k idle).actuals c ≡ true)) → (b : Bool) → any_written i.actuals c ≡ b →
        (if b then Written m else first_writer rest (suc m) c) ≡ Written p → (k : ℕ) × (p ≡ m + k) × (any_written (slice_index_or (i ∷ rest) k idle).actuals c ≡ true)
    by go true is e = let same : m ≡ p = same_writer e in (0, omega (arith, same), is)
    by go false is e = let (k, at, any) = go e in (suc k, omega (arith, at), any)

written : (a : Actual) (c : ℕ) → is_written a c ≡ true → a ≡ Writes c
written (Writes d) c e = ap Writes (eqb-true d c e)
written a c e = absurd cc

there : (xs : List Actual) (c : ℕ) → any_written xs c ≡ true → slice_index_or xs (writing xs c) none ≡ Writes c
there [] c e = absurd cc
there (a ∷ rest) c e = by (there rest c) (is_written a c) refl e
  where
    by : (any_written rest c ≡ true → slice_index_or rest (writing rest c) none ≡ Writes c) → (b : Bool) → is_written a c ≡ b → (if b then true else any_written rest c) ≡ true →
        slice_index_or (a ∷ rest) (if b then 0 else suc (writing rest c)) none ≡ Writes c
    by go true is e = written a c is
    by go false is e = go e

-- the process from which a channel comes writes it
pub wrote : (N : Schema) (p c : ℕ) → channel_source N c ≡ Written p → actual_at (instance_at N p) (writing (instance_at N p).actuals c) ≡ Writes c
wrote N p c e =
    let (k, at, any) = first N.instances 0 p c (by_role (role_at N c) (first_writer N.instances 0 c) p e) in
    let same : k ≡ p = omega (arith, at) in
    there (instance_at N p).actuals c (subst (λ (i : ℕ). any_written (instance_at N i).actuals c ≡ true) same any)

-- and by no other parameter
pub written_once : (t : Program) → IsWellWired t → (p q c : ℕ) → actual_at (instance_at (network_of t) p) q ≡ Writes c →
    q ≡ writing (instance_at (network_of t) p).actuals c
written_once t wired p q c w =
    (driven t wired).once p q (writing (instance_at (network_of t) p).actuals c) c w (wrote (network_of t) p c (writes t wired p q c w).0)

-- ---- an input channel that has a stream

-- a watched channel
watched_is : (watch : Option ℕ) (c : ℕ) → is_watched watch c ≡ true → watch ≡ Some c
watched_is None c e = absurd cc
watched_is (Some w) c e = ap Some (eqb-true w c e)

pub input_watched : (N : Schema) (watch : Option ℕ) (c : ℕ) → role_at N c ≡ Input → is_streamed N watch c ≡ true → watch ≡ Some c
input_watched N watch c role streamed = watched_is watch c (subst (λ r. (is_output r || is_watched watch c) ≡ true) role streamed)
