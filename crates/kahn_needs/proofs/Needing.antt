-- For each value of the solution there is a least cut in which it stands.
use Rattle.kahn_needs.proofs.Common.{eqb_refl, arith, ◌≡◌, ℕ, zero, suc, ◌≤◌, ◌<◌, ◌==◌, max, Bool, true, false, List, [], ◌∷◌, ◌++◌, length, take, refl, sym, ap, subst, eqb-true, le_of_suc-le-suc, not-suc-le-zero, le_refl, pos, slice_index_or, if◌then◌else◌, length-append, length-take, le-max_left, le-max_right, Value, Line, Channel, Print, Number, Schema, Actual, Reads, Writes, Hands, instance_at, actual_at, Source, Given, Written, Nobody, Histories, Inputs, tape_of, tapes_of, out, source, fed, input_list, iterate, IsExtended, IsPrefix, prefix_refl, prefix_get, feeds, out_grows, sent_stands, stand_in, AllStand, Cut, first_values, held_in, IsCutWithin, IsMadeIn, IsShortest}
use Rattle.std.proofs.{Common.drop, Math.Nat.max-le, lemmas.List.take-append-drop}
use Rattle.kahn_needs.proofs.Ways.{AllOf, are_tapes, enough, fewest, needed, taken, taken_left}

-- ---- lists and numbers

pub prefix_length : (xs ys : List Value) → IsPrefix xs ys → length xs ≤ length ys
prefix_length xs ys h =
    let e : length ys ≡ length (xs ++ h.0) = ap length h.1 in
    omega (arith, e, length-append xs h.0)

pub take_grows : (a b : ℕ) (xs : List Value) → a ≤ b → IsPrefix (take a xs) (take b xs)
take_grows zero b xs le = (take b xs, refl)
take_grows (suc a) zero xs le = absurd (not-suc-le-zero le)
take_grows (suc a) (suc b) [] le = ([], refl)
take_grows (suc a) (suc b) (x ∷ xs) le = let r = take_grows a b xs (le_of_suc-le-suc le) in (r.0, ap (λ l. x ∷ l) r.1)

pub take_below : (a : ℕ) (xs : List Value) → IsPrefix (take a xs) xs
take_below a xs = (drop a xs, sym (take-append-drop a xs))

pub take_length : (a : ℕ) (xs : List Value) → length (take a xs) ≤ a
take_length a xs = let e = length-take a xs in omega (arith, e)

-- this number at one place, and 0 at all others
abbrev only : ℕ → ℕ → ℕ → ℕ
only p j r = if r == p then j else 0

only_there : (p j : ℕ) → only p j p ≡ j
only_there p j = ap (λ b. if b then j else 0) (eqb_refl p)

pub only_below : (p j : ℕ) (f : ℕ → ℕ) → j ≤ f p → (r : ℕ) → (if r == p then j else 0) ≤ f r
only_below p j f h r = by (r == p) refl
  where
    by : (b : Bool) → (r == p) ≡ b → (if b then j else 0) ≤ f r
    by true e = subst (λ s. j ≤ f s) (sym (eqb-true r p e)) h
    by false e = omega arith

-- ---- cuts

pub within_refl : (x : Cut) → IsCutWithin x x
within_refl x = (λ d. le_refl (x.values d), λ p. le_refl (x.events p))

abbrev join : Cut → Cut → Cut
join x y = record { values = λ c. max (x.values c) (y.values c); events = λ p. max (x.events p) (y.events p) }

join_left : (x y : Cut) → IsCutWithin x (join x y)
join_left x y = (λ c. le-max_left (x.values c) (y.values c), λ p. le-max_left (x.events p) (y.events p))

join_below : (x y z : Cut) → IsCutWithin x z → IsCutWithin y z → IsCutWithin (join x y) z
join_below x y z h g = (λ c. max-le (h.0 c) (g.0 c), λ p. max-le (h.1 p) (g.1 p))

-- ---- what is held

fed_both : (N : Schema) (I J : Inputs) → ((d : ℕ) → IsPrefix (I d) (J d)) → (src : Source) (f g : ℕ → List Value) (c : Line) →
    ((p : ℕ) → IsPrefix (f p) (g p)) → IsPrefix (fed src I f c) (fed src J g c)
fed_both N I J h Given f g (Channel d) k = h d
fed_both N I J h Given f g (Print p) k = prefix_refl []
fed_both N I J h (Written p) f g c k = k p
fed_both N I J h Nobody f g c k = prefix_refl []

-- a larger cut of longer inputs holds longer histories, and later ones too
pub held_more : (N : Schema) (I J : Inputs) (x y : Cut) → ((d : ℕ) → IsPrefix (first_values x.values I d) (first_values y.values J d)) → ((p : ℕ) → x.events p ≤ y.events p) →
    (n m : ℕ) → n ≤ m → IsExtended (held_in N I x n) (held_in N J y m)
held_more N I J x y h e zero zero le c = fed_both N (first_values x.values I) (first_values y.values J) h (source N c) _ _ c (λ p. prefix_refl [])
held_more N I J x y h e zero (suc m) le c = fed_both N (first_values x.values I) (first_values y.values J) h (source N c) _ _ c (λ p. (_, refl))
held_more N I J x y h e (suc n) zero le c = absurd (not-suc-le-zero le)
held_more N I J x y h e (suc n) (suc m) le c =
    fed_both N (first_values x.values I) (first_values y.values J) h (source N c) _ _ c (λ p.
    out_grows N (x.events p) (y.events p) p (held_in N I x n) (held_in N J y m) c (e p)
    (feeds (instance_at N p) (held_in N I x n) (held_in N J y m) (held_more N I J x y h e n m (le_of_suc-le-suc le))))

pub held_within : (N : Schema) (I : Inputs) (x y : Cut) → IsCutWithin x y → (n m : ℕ) → n ≤ m → IsExtended (held_in N I x n) (held_in N I y m)
held_within N I x y h = held_more N I I x y (λ d. take_grows (x.values d) (y.values d) (I d) (h.0 d)) h.1

-- what is fed stands, if what is sent does
pub fed_stands : (N : Schema) (I J : Inputs) (c : Line) (f : ℕ → List Value) → ((d : ℕ) → IsPrefix (I d) (J d)) → ((p : ℕ) → source N c ≡ Written p → AllStand N J c (f p)) →
    (src : Source) → source N c ≡ src → AllStand N J c (fed src I f c)
fed_stands N I J (Channel d) f longer sent Given e k v at = (0, rw e (prefix_get (I d) (J d) (longer d) k v at))
fed_stands N I J c f longer sent (Written p) e k v at = sent p e k v at
fed_stands N I J c f longer sent s e k v at = absurd cc

module _ (N : Schema) (I : Inputs) (x : Cut) where
  -- in all inputs that begin with the values of the cut
  pub held_stands : (J : Inputs) → ((d : ℕ) → IsPrefix (first_values x.values I d) (J d)) → (n : ℕ) → AllOf N J (held_in N I x n)
  held_stands J longer zero c = fed_stands N (first_values x.values I) J c (λ p. []) longer (λ p e k v at. absurd cc) (source N c) refl
  held_stands J longer (suc n) c = fed_stands N (first_values x.values I) J c _ longer (λ p e k v at. let T = are_tapes N J p (held_in N I x n) (held_stands J longer n) in
      sent_stands N J p (tapes_of (instance_at N p) (held_in N I x n)) T.stand T.none (x.events p) k c v e at) (source N c) refl

  pub held_all : (n : ℕ) → AllOf N I (held_in N I x n)
  held_all = held_stands I (λ d. take_below (x.values d) (I d))

  pub held_given : (n : ℕ) (c : Line) → source N c ≡ Given → held_in N I x n c ≡ input_list (first_values x.values I) c
  held_given zero c e = rw e refl
  held_given (suc n) c e = rw e refl

  pub held_written : (n : ℕ) (c : Line) (p : ℕ) → source N c ≡ Written p → held_in N I x (suc n) c ≡ out N (x.events p) p (held_in N I x n) c
  held_written n c p e = rw e refl

  -- a value that an instance sends was sent on what was held before
  pub held_before : (c : Line) (p k n : ℕ) → source N c ≡ Written p → k < length (held_in N I x n c) → (m : ℕ) × (m < n) × (k < length (out N (x.events p) p (held_in N I x m) c))
  held_before c p k zero e h =
      let none : held_in N I x 0 c ≡ [] = rw e refl in
      let l : k < 0 = subst (λ s. k < length s) none h in
      absurd (omega (arith, l))
  held_before c p k (suc n) e h = (n, omega arith, subst (λ s. k < length s) (held_written n c p e) h)

  made_written : (n : ℕ) (c : Line) (p : ℕ) → source N c ≡ Written p → IsPrefix (held_in N I x n c) (out N (x.events p) p (held_in N I x n) c)
  made_written zero c p e = rw e (_, refl)
  made_written (suc n) c p e =
      subst (λ l. IsPrefix l (out N (x.events p) p (held_in N I x (suc n)) c)) (sym (held_written n c p e))
      (out_grows N (x.events p) (x.events p) p (held_in N I x n) (held_in N I x (suc n)) c (le_refl (x.events p))
      (feeds (instance_at N p) (held_in N I x n) (held_in N I x (suc n)) (held_within N I x x (within_refl x) n (suc n) (omega arith))))

  pub held_made : (n : ℕ) → IsMadeIn N I x (held_in N I x n)
  held_made n =
      record {
        below = λ c. stand_in N I c (held_in N I x n c) (held_all n c);
        given = λ d e. subst (λ l. length l ≤ x.values d) (sym (held_given n (Channel d) e)) (take_length (x.values d) (I d));
        written = made_written n;
      }

-- ---- the least cut that holds what is wanted

pub record Least (N : Schema) (I : Inputs) (P : Histories → Type 0) : Type 0 where
  pub cut : Cut
  pub enough : (n : ℕ) × P (held_in N I cut n)
  pub least : (y : Cut) (A : Histories) → IsMadeIn N I y A → P A → IsCutWithin cut y

abbrev pub Grows : (Histories → Type 0) → Type 0
Grows P = (H G : Histories) → IsExtended H G → P H → P G

pub tape_grows : (t : ℕ) (a : Actual) → Grows (λ A. t ≤ length (tape_of A a))
tape_grows t (Reads d) H G h l = let m = prefix_length (H (Channel d)) (G (Channel d)) (h (Channel d)) in omega (arith, l, m)
tape_grows t (Writes d) H G h l = l
tape_grows t (Hands v) H G h l = l

module _ (N : Schema) (I : Inputs) where
  abbrev nothing : Cut
  nothing = record { values = λ c. 0; events = λ p. 0 }

  none_wanted : (P : Histories → Type 0) → P (held_in N I nothing 0) → Least N I P
  none_wanted P h = record { cut = nothing; enough = (0, h); least = λ y A made g. (λ c. omega arith, λ p. omega arith) }

  both_wanted : (P Q R : Histories → Type 0) → Grows P → Grows Q → Least N I P → Least N I Q → ((A : Histories) → P A → Q A → R A) → ((A : Histories) → R A → P A × Q A) → Least N I R
  both_wanted P Q R p q x y there back =
      let n = max x.enough.0 y.enough.0 in
      let z = join x.cut y.cut in
      record {
        cut = z;
        enough = (
          n,
          there (held_in N I z n) (p _ _ (held_within N I x.cut z (join_left x.cut y.cut) x.enough.0 n (le-max_left x.enough.0 y.enough.0)) x.enough.1)
              (q _ _ (held_within N I y.cut z (λ c. le-max_right (x.cut.values c) (y.cut.values c), λ p. le-max_right (x.cut.events p) (y.cut.events p)) y.enough.0 n (le-max_right x.enough.0 y.enough.0)) y.enough.1),
        );
        least = λ w A made h. join_below x.cut y.cut w (x.least w A made (back A h).0) (y.least w A made (back A h).1);
      }

  -- more than k values of a line
  abbrev pub Found : Line → ℕ → Type 0
  Found c k = Least N I (λ A. k < length (A c))

  found_given : (c : Line) (k : ℕ) → source N c ≡ Given → k < length (input_list I c) → Found c k
  found_given (Print p) k e h = absurd (omega (arith, h))
  found_given (Channel d) k e h =
      let x : Cut = record { values = only d (suc k); events = λ p. 0 } in
      let g = length-take (only d (suc k) d) (I d) in
      record {
        cut = x;
        enough = (0, omega (arith, ap length (held_given N I x 0 (Channel d) e), g, only_there d (suc k), h));
        least = λ y A made g. (only_below d (suc k) y.values (let l = made.given d e in omega (arith, g, l)), λ p. omega arith);
      }

  -- at one parameter, and at all
  module _ (n : ℕ) (before : (d k : ℕ) → k < length (iterate N I n (Channel d)) → Found (Channel d) k) where
    at_one : (a : Actual) (t : ℕ) → t ≤ length (tape_of (iterate N I n) a) → Least N I (λ A. t ≤ length (tape_of A a))
    at_one (Reads d) zero h = none_wanted (λ A. zero ≤ length (A (Channel d))) (omega arith)
    at_one (Reads d) (suc t) h = before d t h
    at_one (Writes d) t h = none_wanted (λ A. t ≤ 0) h
    at_one (Hands v) t h = none_wanted (λ A. t ≤ 0) h

    at_all : (default : Actual) → ((A : Histories) → tape_of A default ≡ []) → (actuals : List Actual) (t : ℕ → ℕ) →
        ((q : ℕ) → t q ≤ length (tape_of (iterate N I n) (slice_index_or actuals q default))) → Least N I (λ A. (q : ℕ) → t q ≤ length (tape_of A (slice_index_or actuals q default)))
    at_all default none [] t h = none_wanted (λ A. (q : ℕ) → t q ≤ length (tape_of A default)) (λ q. let g = h q in let e = ap length (none (iterate N I n)) in let f = ap length (none (held_in N I nothing 0)) in omega (arith, g, e, f))
    at_all default none (a ∷ rest) t h =
        both_wanted (λ A. t 0 ≤ length (tape_of A a)) (λ A. (q : ℕ) → t (suc q) ≤ length (tape_of A (slice_index_or rest q default)))
        (λ A. (q : ℕ) → t q ≤ length (tape_of A (slice_index_or (a ∷ rest) q default)))
        (tape_grows (t 0) a) (λ H G e g q. tape_grows (t (suc q)) (slice_index_or rest q default) H G e (g q))
        (at_one a (t 0) (h 0)) (at_all default none rest (λ q. t (suc q)) (λ q. h (suc q))) there (λ A g. (g 0, λ q. g (suc q)))
      where
        there : (A : Histories) → t 0 ≤ length (tape_of A a) → ((q : ℕ) → t (suc q) ≤ length (tape_of A (slice_index_or rest q default))) → (q : ℕ) → t q ≤ length (tape_of A (slice_index_or (a ∷ rest) q default))
        there A l g zero = l
        there A l g (suc q) = g q

    -- on a line that an instance sends
    module _ (c : Line) (p k : ℕ) (src : source N c ≡ Written p) where
      abbrev H : Histories
      H = iterate N I n

      stand : AllOf N I H
      stand c j v e = (n, e)

      module _ (e : ℕ) (short : IsShortest N p c k e H) where
        abbrev t : ℕ → ℕ
        t = taken N I p c k e H stand short

        found_by : Least N I (λ A. (q : ℕ) → t q ≤ length (tape_of A (actual_at (instance_at N p) q))) → Found c k
        found_by all =
            let x = join all.cut (record { values = λ d. 0; events = only p e }) in
            let m = all.enough.0 in
            let l = le-max_right (all.cut.events p) (only p e p) in
            record {
              cut = x;
              enough = (
                suc m,
                subst (λ l. k < length l) (sym (held_written N I x m c p src))
                    (enough N I p c k e H stand short (x.events p) (held_in N I x m) (held_all N I x m) (omega (arith, only_there p e, l))
                    (λ q. tape_grows (t q) (actual_at (instance_at N p) q) _ _ (held_within N I all.cut x (join_left all.cut _) m m (le_refl m)) (all.enough.1 q))),
              );
              least = λ y A made h.
                  let l = prefix_length (A c) (out N (y.events p) p A c) (made.written c p src) in
                  let g = needed N I p c k e H stand short (y.events p) A (λ d j v f. let b = made.below d in (b.0, prefix_get _ _ b.1 j v f)) (omega (arith, h, l)) in
                  join_below all.cut _ y (all.least y A made g.1) (λ d. omega arith, only_below p e y.events g.0);
            }

        found_short : Found c k
        found_short = found_by (at_all (Hands (Number (pos 0))) (λ A. refl) (instance_at N p).actuals t (λ q. let l = taken_left N I p c k e H stand short q in omega (arith, l)))

      found_written : k < length (out N n p H c) → Found c k
      found_written h = let f = fewest (λ e. length (out N e p H c)) k n h in found_short f.0 (record { there = f.1; sooner = f.2 })

  found_source : (c : Line) (k : ℕ) (f : ℕ → List Value) (src : Source) → source N c ≡ src → ((p : ℕ) → source N c ≡ Written p → k < length (f p) → Found c k) →
      k < length (fed src I f c) → Found c k
  found_source c k f Given e step h = found_given c k e h
  found_source c k f (Written p) e step h = step p e h
  found_source c k f Nobody e step h = absurd (omega (arith, h))

  pub found : (n : ℕ) (c : Line) (k : ℕ) → k < length (iterate N I n c) → Found c k
  found zero c k h = found_source c k (λ p. []) (source N c) refl (λ p e g. absurd (omega (arith, g))) h
  found (suc n) c k h = found_source c k _ (source N c) refl (λ p e g. found_written n (λ d j l. found n (Channel d) j l) c p k e g) h
