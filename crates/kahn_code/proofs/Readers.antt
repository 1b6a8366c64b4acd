-- In a well wired program each channel is read at one side at most, and written at one at most.
use Rattle.kahn_code.proofs.Common.{◌≡◌, ℕ, ◌<◌, length, Option, Some, None, refl, sym, ap, ◌∙◌, subst, Program, Schema, Actual, Reads, Writes, network_of, instance_at, actual_at, IsWithin, IsOnly, handed_at, IsWellWired, handed_within, reads_listed, writes_listed, writes, AreDriven, Joins}
use Rattle.kahn_streams.specs.declared.sides.Side.{Side}
use Rattle.kahn_streams.proofs.Sided.{one_reader, one_writer, declared_there}

-- a channel is handed over only by an instance that is there, at a parameter that is there
pub joins_within : (N : Schema) (p q c : ℕ) → Joins (actual_at (instance_at N p) q) c → p < length N.instances
joins_within N p q c j = (handed_within N p q c j).0

pub joins_parameter : (N : Schema) (p q c : ℕ) → Joins (actual_at (instance_at N p) q) c → q < length (instance_at N p).actuals
joins_parameter N p q c j = (handed_within N p q c j).1

-- where one side at most is handed this, it is handed there
one_side : (N : Schema) (a : Actual) (c : ℕ) → Joins a c → (o : Option Side) → IsOnly (λ s. IsWithin N s × (handed_at N s ≡ a)) o → (p q p' r : ℕ) →
    actual_at (instance_at N p) q ≡ a → actual_at (instance_at N p') r ≡ a → (p ≡ p') × (q ≡ r)
one_side N a c j None none p q p' r e f = absurd (none (record { instance = p; parameter = q }) (handed_within N p q c (subst (λ x. Joins x c) (sym e) j), e))
one_side N a c j (Some s) one p q p' r e f =
    let first = one.1 (record { instance = p; parameter = q }) (handed_within N p q c (subst (λ x. Joins x c) (sym e) j), e) in
    let second = one.1 (record { instance = p'; parameter = r }) (handed_within N p' r c (subst (λ x. Joins x c) (sym f) j), f) in
    let same = first ∙ sym second in
    (ap (λ (u : Side). u.instance) same, ap (λ (u : Side). u.parameter) same)

module _ (t : Program) (wired : IsWellWired t) where
  abbrev N : Schema
  N = network_of t

  pub reads_once : (p q p' r c : ℕ) → actual_at (instance_at N p) q ≡ Reads c → actual_at (instance_at N p') r ≡ Reads c → (p ≡ p') × (q ≡ r)
  reads_once p q p' r c e f =
      let d = declared_there t c (reads_listed t wired p q c e) in
      one_side N (Reads c) c refl _ (one_reader t wired c d.0 d.1) p q p' r e f

  pub writes_once : (p q p' r c : ℕ) → actual_at (instance_at N p) q ≡ Writes c → actual_at (instance_at N p') r ≡ Writes c → (p ≡ p') × (q ≡ r)
  writes_once p q p' r c e f =
      let d = declared_there t c (writes_listed t wired p q c e) in
      one_side N (Writes c) c refl _ (one_writer t wired c d.0 d.1) p q p' r e f

  pub driven : AreDriven (network_of t)
  driven = record { writer = λ p q c e. (writes t wired p q c e).0; once = λ p q r c e f. (writes_once p q p r c e f).1 }
