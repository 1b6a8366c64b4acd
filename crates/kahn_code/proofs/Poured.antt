-- Plain queues that go on for a longer input.
use Rattle.std.proofs.Common.{slice_get, slice_set}
use Rattle.kahn_code.proofs.Common.{arith, ◌≡◌, ℕ, zero, suc, ◌+◌, ◌<◌, ◌≤◌, ◌==◌, Bool, true, false, List, [], ◌∷◌, ◌++◌, length, map, refl, sym, ap, ◌∙◌, subst, eqb-true, eq-eqb, length-set, Option, option_map, Some, slice_index_or, if◌then◌else◌, slice_get-map, HasMore, ne_eqb, append-nil, length-map, length-append, same_Some, slice_get_read, slice_get_within, ◌^◌, AreGivenFrom, Input, network_of, role_at, Lists, Value, inputs_of, AreInputsExtended, Waiting, Lines, AreQueued, HasPoured, IsPoured, IsQueue, taken_of, waiting_of, regrown}
use Rattle.kahn_streams.proofs.Given_values.{no_channel}
use Rattle.kahn_code.proofs.Queued.{queue_at, set_each, set_get, set_here, still_queued}

-- ---- the list of a channel into which values are poured

behind : {X : Type 0} (xs ys : List X) (k : ℕ) → slice_get (xs ++ ys) (length xs + k) ≡ slice_get ys k
behind [] ys k = let e : 0 + k ≡ k = omega arith in ap (slice_get ys) e
behind (x ∷ xs) ys k = let e : suc (length xs) + k ≡ suc (length xs + k) = omega arith in ap (slice_get (x ∷ (xs ++ ys))) e ∙ behind xs ys k

module _ (before : Lists) (c : ℕ) (values : List Value) (after : Lists) (p : IsPoured before c values after) where
  pub poured_grown : AreInputsExtended (inputs_of before) (inputs_of after)
  poured_grown d = ((if c == d then values else []), p d)

  poured_list : inputs_of after c ≡ inputs_of before c ++ values
  poured_list = p c ∙ ap (λ b. inputs_of before c ++ (if b then values else [])) (eq-eqb c c refl)

  pub poured_at : (n k : ℕ) (v : Value) → n ≡ length (inputs_of before c) → slice_get values k ≡ Some v → slice_get (inputs_of after c) (n + k) ≡ Some v
  poured_at n k v e at =
      ap (λ l. slice_get l (n + k)) poured_list ∙ ap (λ m. slice_get (inputs_of before c ++ values) (m + k)) e ∙ behind (inputs_of before c) values k ∙ at

  pub poured_length : length (inputs_of after c) ≡ length (inputs_of before c) + length values
  poured_length = ap length poured_list ∙ length-append (inputs_of before c) values

  poured_else : (d : ℕ) → (d ≡ c → ⊥) → inputs_of after d ≡ inputs_of before d
  poured_else d n = p d ∙ ap (λ b. inputs_of before d ++ (if b then values else [])) (ne_eqb c d (λ e. n (sym e))) ∙ append-nil (inputs_of before d)

-- ---- queues that go on for a longer input

mapped_get : (f : Option Waiting → ℕ) (input : Lists) → ((w : Waiting) → f (Some (regrown input w)) ≡ f (Some w)) → (xs : List Waiting) (d : ℕ) →
    f (slice_get (map (regrown input) xs) d) ≡ f (slice_get xs d)
mapped_get f input e [] d = refl
mapped_get f input e (x ∷ xs) zero = e x
mapped_get f input e (x ∷ xs) (suc d) = mapped_get f input e xs d

regrown_from : (input : Lists) (xs : List Waiting) (d : ℕ) (y : Waiting) → slice_get (map (regrown input) xs) d ≡ Some y → (x : Waiting) × (slice_get xs d ≡ Some x) × (y ≡ regrown input x)
regrown_from input [] d y e = absurd cc
regrown_from input (x ∷ xs) zero y e = (x, refl, sym (same_Some (regrown input x) y e))
regrown_from input (x ∷ xs) (suc d) y e = regrown_from input xs d y e

-- the queue of the input channel c has room now, of queues s, seen as n
module _ {s n : Lines} (is : s ≡ n) (h : AreQueued s) (c : ℕ) (input : role_at (network_of n.network) c ≡ Input) {w : Waiting} (value : w ≡ slice_index_or s.queues c w) (w1 : Waiting)
    (more : HasMore 0 w w1) where
  role : role_at (network_of s.network) c ≡ Input
  role = ap (λ (x : Lines). role_at (network_of x.network) c) is ∙ input

  abbrev roomier : Lines
  roomier = record s { queues = slice_set s.queues c w1 }

  inside : c < length s.queues
  inside = let there : length (network_of s.network).channels ≤ c → ⊥ = λ past. no_channel (network_of s.network) c past role in omega (arith, there, h.count)

  pub roomier_queued : AreQueued roomier
  roomier_queued = still_queued s h c w w1 inside value (more.0, more.1, more.2) (λ e. omega (arith, more.3, more.4))

  at_first : slice_get s.queues c ≡ Some w
  at_first = queue_at s h c w w1 inside value

  pub roomier_poured : HasPoured c 0 n.input n roomier
  roomier_poured = rw (← is) (record {
    network = refl;
    lists = refl;
    instance = refl;
    taken = λ d. set_get taken_of s.queues c d w w1 at_first (λ e. more.3);
    waiting = λ d. omega (arith, set_get waiting_of s.queues c d w w1 at_first (λ e. omega (arith, more.4)), none (c == d));
  })
    where
      none : (b : Bool) → ◌≡◌ {A = ℕ} (if b then 0 else 0) 0
      none true = refl
      none false = refl

  module _ (values : List Value) (after : Lists) (pours : IsPoured n.input c values after) where
    p : IsPoured s.input c values after
    p = subst (λ (x : Lines). IsPoured x.input c values after) (sym is) pours

    pub roomier_grows : (d : ℕ) (v : Waiting) → slice_get roomier.queues d ≡ Some v → AreInputsExtended (inputs_of v.input) (inputs_of after)
    roomier_grows d v at = rw (roomier_queued.each d v at).input (poured_grown s.input c values after p)

    module _ {qs : List Waiting} (regrow : qs ≡ map (regrown after) roomier.queues) {w2 : Waiting} (value2 : w2 ≡ slice_index_or qs c w2) where
      inside2 : c < length qs
      inside2 = omega (arith, ap length regrow, length-map roomier.queues (regrown after), length-set s.queues c w1, inside)

      at_then : slice_get qs c ≡ Some w2
      at_then = slice_get_read qs (length qs) c w2 refl inside2 value2

      is_then : w2 ≡ regrown after w1
      is_then = same_Some w2 (regrown after w1) (sym at_then ∙ ap (λ l. slice_get l c) regrow ∙ slice_get-map (regrown after) roomier.queues c ∙ ap (option_map (regrown after)) (set_here s.queues c w1 inside))

      own : IsQueue s.network s.input c w1
      own = roomier_queued.each c w1 (set_here s.queues c w1 inside)

      pub then_room : length values ≤ w1.spare → length values ≤ w2.spare
      then_room l = rw is_then l

      pub then_given : length (inputs_of after c) < 2 ^ 64 → AreGivenFrom w2.network w2.input w2.channel (w2.taken + w2.waiting) values
      then_given few = rw (is_then, own.network, own.channel)
          (λ k v at. let here = poured_at s.input c values after p (w1.taken + w1.waiting) k v (own.given role) at in
          (role, here, omega (arith, slice_get_within (inputs_of after c) (w1.taken + w1.waiting + k) v here, few)))

      module _ (w3 : Waiting) (more3 : HasMore (length values) w2 w3) {lists : Lists} (named : lists ≡ after) where
        abbrev poured : Lines
        poured = record { network = s.network; input = lists; instance = s.instance; queues = slice_set qs c w3 }

        others : (d : ℕ) (y : Waiting) → (d ≡ c → ⊥) → slice_get qs d ≡ Some y → IsQueue s.network after d y
        others d y n at =
            let x = regrown_from after roomier.queues d y (sym (ap (λ l. slice_get l d) regrow) ∙ at) in
            let own = roomier_queued.each d x.0 x.1 in
            rw x.2 (record { network = own.network; input = refl; channel = own.channel; given = λ e. own.given e ∙ ap length (sym (poured_else s.input c values after p d n)) })

        mine : IsQueue s.network after c w3
        mine = record {
          network = more3.0 ∙ ap (λ (x : Waiting). x.network) is_then ∙ own.network;
          input = more3.1 ∙ ap (λ (x : Waiting). x.input) is_then;
          channel = more3.2 ∙ ap (λ (x : Waiting). x.channel) is_then ∙ own.channel;
          given = λ e. omega (arith, more3.3, more3.4, ap (λ (x : Waiting). x.taken + x.waiting) is_then, own.given role, poured_length s.input c values after p);
        }

        pub poured_queued : AreQueued poured
        poured_queued = record {
          wired = h.wired;
          count = length-set qs c w3 ∙ ap length regrow ∙ length-map roomier.queues (regrown after) ∙ roomier_queued.count;
          each = rw named (set_each (IsQueue s.network after) qs c w3 others mine);
        }

        before : (f : Option Waiting → ℕ) → ((v : Waiting) → f (Some (regrown after v)) ≡ f (Some v)) → f (Some w1) ≡ f (Some w) → (d : ℕ) → f (slice_get qs d) ≡ f (slice_get s.queues d)
        before f e still d =
            ap (λ l. f (slice_get l d)) regrow ∙ mapped_get f after e roomier.queues d ∙ set_get f s.queues c d w w1 at_first (λ e. still)

        waits : (d : ℕ) (b : Bool) → (c == d) ≡ b → waiting_of (slice_get (slice_set qs c w3) d) ≡ waiting_of (slice_get s.queues d) + (if b then length values else 0)
        waits d true e =
            subst (λ d. waiting_of (slice_get (slice_set qs c w3) d) ≡ waiting_of (slice_get s.queues d) + length values) (eqb-true c d e)
            (omega (arith, ap waiting_of (set_here qs c w3 inside2), more3.4, ap waiting_of at_then, before waiting_of (λ v. refl) (omega (arith, more.4)) c))
        waits d false e =
            omega (arith, set_get waiting_of qs c d w2 w3 at_then (λ i. let never : true ≡ false = sym (eq-eqb c d (sym i)) ∙ e in absurd cc), before waiting_of (λ v. refl) (omega (arith, more.4)) d)

        pub has_poured : HasPoured c (length values) after n poured
        has_poured = rw (← is) (record {
          network = refl;
          lists = named;
          instance = refl;
          taken = λ d. set_get taken_of qs c d w2 w3 at_then (λ e. more3.3) ∙ before taken_of (λ v. refl) more.3 d;
          waiting = λ d. waits d (c == d) refl;
        })
