-- What a value needs is what its writer's shortest run to it needs.
use Rattle.kahn_needs.proofs.Common.{arith, ◌≡◌, ◌↔◌, ℕ, zero, suc, ◌≤◌, ◌<◌, max, List, [], ◌∷◌, length, refl, sym, ap, subst, Some, slice_get, slice_index_or, pos, length-take, le-max_left, le-max_right, slice_get_within, Value, Line, Channel, Number, Schema, Actual, Reads, Writes, Hands, instance_at, actual_at, Given, Written, Histories, Inputs, IsPrefix, iterate, tape_of, source, Stands, prefix_get, Cut, held_in, Suffices, IsShortest, IsTakenBy, GoBack}
use Rattle.kahn_needs.proofs.{Needing.take_length, Needing.held_all, Needing.held_before, Needing.held_given, Needing.held_within, Needing.held_written, Needing.tape_grows, Needing.within_refl, Told.suffices_there, Ways.AllOf, Ways.enough, Ways.get_there, Ways.needed, Ways.taken, Ways.taken_left}

-- ---- an input

pub given : (N : Schema) (I : Inputs) (d k : ℕ) (v : Value) (y : Cut) → source N (Channel d) ≡ Given → slice_get (I d) k ≡ Some v → Suffices N I (Channel d) k v y ↔ (k < y.values d)
given N I d k v y e h = (there, back)
  where
    there : Suffices N I (Channel d) k v y → k < y.values d
    there s =
        omega (arith, slice_get_within (held_in N I y s.0 (Channel d)) k v s.1, ap length (held_given N I y s.0 (Channel d) e), take_length (y.values d) (I d))

    back : k < y.values d → Suffices N I (Channel d) k v y
    back l =
        let m = slice_get_within (I d) k v h in
        suffices_there N I (Channel d) k v (0, rw e h) y 0 (omega (arith, l, ap length (held_given N I y 0 (Channel d) e), length-take (y.values d) (I d), m))

-- ---- one iterate for all parameters

for_all : (N : Schema) (I : Inputs) (y : Cut) (default : Actual) → ((A : Histories) → tape_of A default ≡ []) → (actuals : List Actual) (t : ℕ → ℕ) →
    ((q : ℕ) → (n : ℕ) × (t q ≤ length (tape_of (held_in N I y n) (slice_index_or actuals q default)))) →
    (n : ℕ) × ((q : ℕ) → t q ≤ length (tape_of (held_in N I y n) (slice_index_or actuals q default)))
for_all N I y default none [] t h = (0, λ q. let g = (h q).1 in let e = ap length (none (held_in N I y (h q).0)) in let f = ap length (none (held_in N I y 0)) in omega (arith, g, e, f))
for_all N I y default none (a ∷ rest) t h = by (h 0) (for_all N I y default none rest (λ q. t (suc q)) (λ q. h (suc q)))
  where
    later : {m n : ℕ} → m ≤ n → (a : Actual) (t : ℕ) → t ≤ length (tape_of (held_in N I y m) a) → t ≤ length (tape_of (held_in N I y n) a)
    later {m} {n} le a t = tape_grows t a _ _ (held_within N I y y (within_refl y) m n le)

    by : ((n : ℕ) × (t 0 ≤ length (tape_of (held_in N I y n) a))) → ((n : ℕ) × ((q : ℕ) → t (suc q) ≤ length (tape_of (held_in N I y n) (slice_index_or rest q default)))) →
        (n : ℕ) × ((q : ℕ) → t q ≤ length (tape_of (held_in N I y n) (slice_index_or (a ∷ rest) q default)))
    by one all = (max one.0 all.0, each)
      where
        each : (q : ℕ) → t q ≤ length (tape_of (held_in N I y (max one.0 all.0)) (slice_index_or (a ∷ rest) q default))
        each zero = later (le-max_left one.0 all.0) a (t 0) one.1
        each (suc q) = later (le-max_right one.0 all.0) (slice_index_or rest q default) (t (suc q)) (all.1 q)

-- ---- a line that an instance writes

module _ (N : Schema) (I : Inputs) (c : Line) (p k e : ℕ) (v : Value) (H : Histories) (y : Cut) (src : source N c ≡ Written p)
    (here : (c : Line) → (m : ℕ) × IsPrefix (H c) (iterate N I m c)) (short : IsShortest N p c k e H) (stands : Stands N I c k v) where
  abbrev Wants : Type 0
  Wants = (q d j : ℕ) (w : Value) → actual_at (instance_at N p) q ≡ Reads d → IsTakenBy N p e H q j → slice_get (H (Channel d)) j ≡ Some w → Suffices N I (Channel d) j w y

  stand : AllOf N I H
  stand d j w f = let b = here d in (b.0, prefix_get _ _ b.1 j w f)

  abbrev t : ℕ → ℕ
  t = taken N I p c k e H stand short

  there : Suffices N I c k v y → (e ≤ y.events p) × Wants
  there s =
      let b = held_before N I y c p k s.0 src (slice_get_within (held_in N I y s.0 c) k v s.1) in
      let g = needed N I p c k e H stand short (y.events p) (held_in N I y b.0) (held_all N I y b.0) b.2 in (
        g.0,
        λ q d j w a h at.
            let x = ap (λ a. length (tape_of (held_in N I y b.0) a)) a in
            suffices_there N I (Channel d) j w (stand (Channel d) j w at) y b.0 (omega (arith, h, taken_left N I p c k e H stand short q, g.1 q, x)),
      )

  one_tape : Wants → (q n : ℕ) (a : Actual) → actual_at (instance_at N p) q ≡ a → n ≡ t q → (m : ℕ) × (n ≤ length (tape_of (held_in N I y m) a))
  one_tape wants q zero a at is = (0, omega arith)
  one_tape wants q (suc j) (Reads d) at is =
      let f = taken_left N I p c k e H stand short q in
      let w = get_there (H (Channel d)) j v (omega (arith, f, ap (λ a. length (tape_of H a)) at, is)) in
      let s = wants q d j w.0 at (omega (arith, f, is)) w.1 in
      (s.0, let g = slice_get_within (held_in N I y s.0 (Channel d)) j w.0 s.1 in omega (arith, g))
  one_tape wants q (suc j) (Writes d) at is = let f = taken_left N I p c k e H stand short q in let x = ap (λ a. length (tape_of H a)) at in absurd (omega (arith, f, x, is))
  one_tape wants q (suc j) (Hands u) at is = let f = taken_left N I p c k e H stand short q in let x = ap (λ a. length (tape_of H a)) at in absurd (omega (arith, f, x, is))

  back : (e ≤ y.events p) × Wants → Suffices N I c k v y
  back h =
      let all = for_all N I y (Hands (Number (pos 0))) (λ A. refl) (instance_at N p).actuals t (λ q. one_tape h.1 q (t q) (actual_at (instance_at N p) q) refl refl) in
      suffices_there N I c k v stands y (suc all.0)
      (subst (λ s. k < length s) (sym (held_written N I y all.0 c p src)) (enough N I p c k e H stand short (y.events p) (held_in N I y all.0) (held_all N I y all.0) h.0 all.1))

pub go_back : (N : Schema) (I : Inputs) → GoBack N I
go_back N I =
    record {
      given = given N I;
      written = λ c p k e v H y src here short stands. (there N I c p k e v H y src here short stands, back N I c p k e v H y src here short stands);
    }
