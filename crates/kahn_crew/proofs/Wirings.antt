-- Who reads and who writes a channel, by the numbers of instances and parameters.
use Rattle.kahn_crew.proofs.Common.{none-some, same_Some, true≢false, arith, ◌≡◌, ℕ, ◌<◌, ◌==◌, Bool, true, false, length, refl, sym, ap, ◌∙◌, subst, Option, Some, None, eqb-true, if◌then◌else◌, position, Program, Side, Schema, Actual, Reads, Writes, Hands, Written, network_of, instance_at, actual_at, role_at, IsOnly, IsWriter, IsWellWired, is_output, Joins, route_of, joins_within, joins_parameter, reads_once, driven, wires, read_by, written_by, is_channel, nothing, sole_first, sole_reader, sole_writer}
use Rattle.kahn_streams.proofs.Sourced.{reads_listed, writes_listed}
use Rattle.std.proofs.lemmas.List.Quantifiers.{position-Some}

eqb_refl : (d : ℕ) → (d == d) ≡ true
eqb_refl d = grind arith

-- ---- actuals

channel_so : (o : Option ℕ) (c : ℕ) → is_channel o c ≡ true → o ≡ Some c
channel_so None c e = absurd (true≢false (sym e))
channel_so (Some d) c e = ap Some (eqb-true d c e)

so_channel : (o : Option ℕ) (c : ℕ) → o ≡ Some c → is_channel o c ≡ true
so_channel o c e = ap (λ k. is_channel k c) e ∙ eqb_refl c

pub read_so : (a : Actual) (c : ℕ) → read_by a ≡ Some c → a ≡ Reads c
read_so (Reads d) c e = ap Reads (same_Some _ _ e)
read_so (Writes d) c e = absurd (none-some _ e)
read_so (Hands v) c e = absurd (none-some _ e)

inner_so : (b : Bool) (d c : ℕ) → (if b then None else Some d) ≡ Some c → (d ≡ c) × (b ≡ false)
inner_so true d c e = absurd (none-some _ e)
inner_so false d c e = (same_Some _ _ e, refl)

so_inner : (b : Bool) (c : ℕ) → b ≡ false → (if b then None else Some c) ≡ Some c
so_inner true c e = absurd (true≢false e)
so_inner false c e = refl

pub written_so : (N : Schema) (a : Actual) (c : ℕ) → written_by N a ≡ Some c → (a ≡ Writes c) × (is_output (role_at N c) ≡ false)
written_so N (Reads d) c e = absurd (none-some _ e)
written_so N (Writes d) c e =
    let f = inner_so (is_output (role_at N d)) d c e in
    (ap Writes f.0, ap (λ k. is_output (role_at N k)) (sym f.0) ∙ f.1)
written_so N (Hands v) c e = absurd (none-some _ e)

pub so_written : (N : Schema) (a : Actual) (c : ℕ) → a ≡ Writes c → is_output (role_at N c) ≡ false → written_by N a ≡ Some c
so_written N a c e inner = ap (written_by N) e ∙ so_inner (is_output (role_at N c)) c inner

-- the channel of a parameter, by an equal program
pub routed_as : {k t : Program} {o : Option ℕ} (p q : ℕ) → k ≡ t → o ≡ route_of (actual_at (instance_at (network_of k) p) q) →
    route_of (actual_at (instance_at (network_of t) p) q) ≡ o
routed_as p q same e = sym (e ∙ ap (λ (k : Program). route_of (actual_at (instance_at (network_of k) p) q)) same)

-- the board has as many channels and instances as the network
pub channels_are : (t : Program) → (wires t).channels ≡ length (network_of t).channels
unfolding wires
channels_are t = refl

pub instances_are : (t : Program) → (wires t).instances ≡ length (network_of t).instances
unfolding wires
instances_are t = refl

-- ---- in a well wired program

module _ (t : Program) (wired : IsWellWired t) where
  abbrev N : Schema
  N = network_of t

  joins_read : (p q c : ℕ) → actual_at (instance_at N p) q ≡ Reads c → Joins (actual_at (instance_at N p) q) c
  joins_read p q c e = subst (λ a. Joins a c) (sym e) refl

  joins_write : (p q c : ℕ) → actual_at (instance_at N p) q ≡ Writes c → Joins (actual_at (instance_at N p) q) c
  joins_write p q c e = subst (λ a. Joins a c) (sym e) refl

  -- the parameter that reads a channel is the first that does
  pub reads_first : (p q c : ℕ) → actual_at (instance_at N p) q ≡ Reads c → position (λ a. is_channel (read_by a) c) (instance_at N p).actuals ≡ Some q
  reads_first p q c e =
      sole_first (λ a. is_channel (read_by a) c) (instance_at N p).actuals nothing q (joins_parameter N p q c (joins_read p q c e)) (so_channel (read_by (actual_at (instance_at N p) q)) c (ap read_by e))
      (λ r l y. (reads_once t wired p r p q c (read_so (actual_at (instance_at N p) r) c (channel_so (read_by (actual_at (instance_at N p) r)) c y)) e).1)

  -- and so the one that writes an inner one
  pub writes_first : (p o c : ℕ) → actual_at (instance_at N p) o ≡ Writes c → is_output (role_at N c) ≡ false →
      position (λ a. is_channel (written_by N a) c) (instance_at N p).actuals ≡ Some o
  writes_first p o c e inner =
      sole_first (λ a. is_channel (written_by N a) c) (instance_at N p).actuals nothing o (joins_parameter N p o c (joins_write p o c e)) (so_channel (written_by N (actual_at (instance_at N p) o)) c (so_written N (actual_at (instance_at N p) o) c e inner))
      (λ r l y. (driven t wired).once p r o c (written_so N (actual_at (instance_at N p) r) c (channel_so (written_by N (actual_at (instance_at N p) r)) c y)).0 e)

  pub first_writes : (p o c : ℕ) → position (λ a. is_channel (written_by N a) c) (instance_at N p).actuals ≡ Some o →
      (actual_at (instance_at N p) o ≡ Writes c) × (is_output (role_at N c) ≡ false)
  first_writes p o c e = written_so N (actual_at (instance_at N p) o) c (channel_so (written_by N (actual_at (instance_at N p) o)) c (position-Some (λ a. is_channel (written_by N a) c) (instance_at N p).actuals o nothing e).1)

  -- the board's reader and writer of a channel
  pub reader_is : (p q c : ℕ) → actual_at (instance_at N p) q ≡ Reads c → (wires t).reader c ≡ Some p
  reader_is p q c e = sole_reader t c p q (joins_within N p q c (joins_read p q c e), joins_parameter N p q c (joins_read p q c e), e) (λ r o x. (reads_once t wired r o p q c x.2 e).0)

  written_same : (p r : ℕ) → Written p ≡ Written r → p ≡ r
  written_same p r e = cc

  pub writer_is : (p o c : ℕ) → actual_at (instance_at N p) o ≡ Writes c → (wires t).writer c ≡ Some p
  writer_is p o c e = sole_writer t c p o (joins_within N p o c (joins_write p o c e), joins_parameter N p o c (joins_write p o c e), e)
      (λ r q x. written_same r p (sym ((driven t wired).writer r q c x.2) ∙ (driven t wired).writer p o c e))

  pub read_inside : (p q c : ℕ) → actual_at (instance_at N p) q ≡ Reads c → c < (wires t).channels
  unfolding wires
  read_inside p q c e = reads_listed t wired p q c e

  pub written_inside : (p o c : ℕ) → actual_at (instance_at N p) o ≡ Writes c → c < (wires t).channels
  unfolding wires
  written_inside p o c e = writes_listed t wired p o c e

  -- a parameter's channel is one of the network's
  pub routed_inside : (p q c : ℕ) → route_of (actual_at (instance_at N p) q) ≡ Some c → c < length N.channels
  routed_inside p q c = by (actual_at (instance_at N p) q) refl
    where
      by : (a : Actual) → actual_at (instance_at N p) q ≡ a → route_of a ≡ Some c → c < length N.channels
      by (Reads d) e f = reads_listed t wired p q c (e ∙ ap Reads (same_Some _ _ f))
      by (Writes d) e f = writes_listed t wired p q c (e ∙ ap Writes (same_Some _ _ f))
      by (Hands v) e f = absurd (none-some _ f)

  -- a channel that nobody or another parameter writes is not written there
  pub no_target : (p q c : ℕ) (r : Option Side) → route_of (actual_at (instance_at N p) q) ≡ Some c → IsOnly (IsWriter N c) r →
      ((s : Side) → r ≡ Some s → (s.instance ≡ p) × (s.parameter ≡ q) → ⊥) → written_by N (actual_at (instance_at N p) q) ≡ None
  no_target p q c r f only apart_from = by (actual_at (instance_at N p) q) refl f
    where
      found : (o : Option Side) → r ≡ o → IsOnly (IsWriter N c) o → IsWriter N c (record { instance = p; parameter = q }) → ⊥
      found None e none w = none (record { instance = p; parameter = q }) w
      found (Some s) e one w =
          let same : record { instance = p; parameter = q } ≡ s = one.1 (record { instance = p; parameter = q }) w in
          apart_from s e (sym (ap (λ (u : Side). u.instance) same), sym (ap (λ (u : Side). u.parameter) same))

      by : (a : Actual) → actual_at (instance_at N p) q ≡ a → route_of a ≡ Some c → written_by N a ≡ None
      by (Reads d) e g = refl
      by (Writes d) e g =
          let here : actual_at (instance_at N p) q ≡ Writes c = e ∙ ap Writes (same_Some _ _ g) in
          absurd (found r refl only ((joins_within N p q c (joins_write p q c here), joins_parameter N p q c (joins_write p q c here)), here))
      by (Hands v) e g = refl
