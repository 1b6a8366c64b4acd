-- A bench that goes on for a longer input.
use Rattle.kahn_sequential.proofs.Common.{arith, ◌≡◌, ℕ, zero, suc, ◌+◌, ◌==◌, Bool, true, false, List, [], ◌∷◌, map, refl, sym, ap, ◌∙◌, subst, eqb-true, Option, Some, None, slice_get, if◌then◌else◌, length-map, Program, Input, Actual, Reads, Writes, Hands, network_of, instance_at, actual_at, role_at, writes, AreInputsExtended, Lists, inputs_of, HasPoured, given_of, next_at, place_at, taken_of, waiting_of, Waiting, CellView, told_view, Tapped, regrown_tap, seen_of, HasTakenIn, IsLaid, IsSeated, Table, gone_in, table_of, told_in, Lines as Queues}
use Rattle.kahn_sequential.proofs.{Benched.get_map, Lists.map_map}

given_sum : (o : Option Waiting) → given_of o ≡ taken_of o + waiting_of o
given_sum None = refl
given_sum (Some w) = refl

regrown_from : (input : Lists) (taps : List Tapped) (p : ℕ) (c : CellView) → slice_get (map told_in (map (regrown_tap input) taps)) p ≡ Some c →
    (d : CellView) × (slice_get (map told_in taps) p ≡ Some d) × (c ≡ record d { input = input })
regrown_from input [] p c e = absurd cc
regrown_from input (x ∷ taps) zero c e = (x.told, refl, cc)
regrown_from input (x ∷ taps) (suc p) c e = regrown_from input taps p c e

-- ---- taps over queues into which values were poured

module _ {t : Program} {lists : Lists} {watch : Option ℕ} {code : Program} (taps : List Tapped) {q : Queues} (laid : IsLaid (table_of t lists watch code taps q)) (c n : ℕ)
    (role : role_at (network_of t) c ≡ Input) (input : Lists) (q' : Queues) (poured : HasPoured c n input q q') where
  abbrev old : Table
  old = table_of t lists watch code taps q

  -- no instance writes the channel
  other : (p r d : ℕ) → actual_at (instance_at (network_of t) p) r ≡ Writes d → (b : Bool) → (c == d) ≡ b → ◌≡◌ {A = ℕ} (if b then n else 0) 0
  other p r d e true same = absurd ((writes t laid.wired p r d e).1 (subst (λ k. role_at (network_of t) k ≡ Input) (eqb-true c d same) role))
  other p r d e false same = refl

  next_same : (p r : ℕ) (a : Actual) → actual_at (instance_at (network_of t) p) r ≡ a → next_at q'.queues a ≡ next_at q.queues a
  next_same p r (Reads d) e = poured.taken d
  next_same p r (Writes d) e =
      omega (arith, given_sum (slice_get q'.queues d), given_sum (slice_get q.queues d), poured.taken d, poured.waiting d, other p r d e (c == d) refl)
  next_same p r (Hands v) e = refl

  place_same : (p r : ℕ) → place_at q' p r ≡ place_at q p r
  place_same p r =
      ap (λ k. next_at q'.queues (actual_at (instance_at (network_of k) p) r)) (poured.network ∙ laid.network) ∙ next_same p r _ refl ∙
      ap (λ k. next_at q.queues (actual_at (instance_at (network_of k) p) r)) (sym laid.network)

  -- the queues go on, and not yet the taps
  module _ (same : input ≡ lists) where
    pub roomier_laid : IsLaid (table_of t lists watch code taps q')
    roomier_laid = record {
      wired = laid.wired;
      code = laid.code;
      count = laid.count;
      each = λ p d at.
          let s = laid.each p d at in
          record {
            network = s.network;
            input = s.input;
            instance = s.instance;
            watch = s.watch;
            at = record { reads = λ r e h. place_same p r ∙ s.at.reads r e h; writes = λ r e h i. place_same p r ∙ s.at.writes r e h i };
          };
      network = poured.network ∙ laid.network;
      input = poured.lists ∙ same;
    }

    pub roomier_then : {s : Table} → old ≡ s → HasTakenIn c n s.input s (table_of t lists watch code taps q')
    roomier_then is =
        subst (λ (x : Table). HasTakenIn c n x.input x (table_of t lists watch code taps q')) is
        (record { rest = refl; views = refl; seen = refl; waiting = poured.waiting })

  -- and the taps
  module _ (name : Lists) (named : name ≡ input) where
    abbrev new : Table
    new = table_of t name watch code (map (regrown_tap input) taps) q'

    pub poured_laid : IsLaid new
    poured_laid = record {
      wired = laid.wired;
      code = laid.code;
      count = length-map (map (regrown_tap input) taps) told_in ∙ length-map taps (regrown_tap input) ∙ sym (length-map taps told_in) ∙ laid.count;
      each = λ p d at.
          let x = regrown_from input taps p d at in
          let s = laid.each p x.0 x.1 in
          subst (IsSeated new p) (sym x.2)
          (record {
            network = s.network;
            input = sym named;
            instance = s.instance;
            watch = s.watch;
            at = record { reads = λ r e h. place_same p r ∙ s.at.reads r e h; writes = λ r e h i. place_same p r ∙ s.at.writes r e h i };
          });
      network = poured.network ∙ laid.network;
      input = poured.lists ∙ sym named;
    }

    pub poured_then : {s : Table} → old ≡ s → {grown : List Tapped} → grown ≡ map (regrown_tap input) taps → HasTakenIn c n input s (table_of t name watch code grown q')
    poured_then is e = rw e (subst (λ (x : Table). HasTakenIn c n input x new) is (record {
      rest = λ i. record { network = t; input = named i; watch = watch; code = code; cells = new.cells; gone = map_map gone_in (regrown_tap input) taps i; queues = q' };
      views = map_map told_view told_in (map (regrown_tap input) taps) ∙ map_map (λ x. told_view x.told) (regrown_tap input) taps ∙ sym (map_map told_view told_in taps);
      seen = map_map seen_of told_in (map (regrown_tap input) taps) ∙ map_map (λ x. seen_of x.told) (regrown_tap input) taps ∙ sym (map_map seen_of told_in taps);
      waiting = poured.waiting;
    }))

-- the taps begin the longer input
pub taps_grow : {t : Program} {lists : Lists} {watch : Option ℕ} {code : Program} (taps : List Tapped) {q : Queues} → IsLaid (table_of t lists watch code taps q) → (input : Lists) →
    AreInputsExtended (inputs_of lists) (inputs_of input) → (p : ℕ) (x : Tapped) → slice_get taps p ≡ Some x → AreInputsExtended (inputs_of x.told.input) (inputs_of input)
taps_grow taps laid input grown p x at =
    subst (λ l. AreInputsExtended (inputs_of l) (inputs_of input)) (sym (laid.each p x.told (get_map told_in taps p x at)).input) grown
