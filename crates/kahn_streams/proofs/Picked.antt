-- The actuals of a network that pass a test, by their places.
use Rattle.kahn_streams.proofs.Common.{◌≡◌, ℕ, zero, suc, ◌+◌, ◌<◌, Bool, true, false, cond, ◌⊎◌, inl, inr, List, ◌∷◌, ◌++◌, length, Option, None, Some, refl, ap, sym, ◌∙◌, subst, arith, Schema, Node, Actual, Hands, Source, Written, Nobody, idle, actual_at, first_writer, any_written, is_written, IsWithin, handed_at, IsOnly, first, side_at, Side, []}
use Rattle.std.specs.Prelude.{slice_index_or, pos}
use Rattle.kahn_streams.specs.Syntax as S
use Rattle.kahn_streams.proofs.Handed.{AtMostOne}

-- ---- members of a list

abbrev pub Among : Side → List Side → Type 0
Among s [] = ⊥
Among s (e ∷ es) = (s ≡ e) ⊎ Among s es

among_left : (s : Side) (xs ys : List Side) → Among s xs → Among s (xs ++ ys)
among_left s [] ys h = absurd h
among_left s (x ∷ xs) ys (inl h) = inl h
among_left s (x ∷ xs) ys (inr h) = inr (among_left s xs ys h)

among_right : (s : Side) (xs ys : List Side) → Among s ys → Among s (xs ++ ys)
among_right s [] ys h = h
among_right s (x ∷ xs) ys h = inr (among_right s xs ys h)

among_split : (s : Side) (xs ys : List Side) → Among s (xs ++ ys) → Among s xs ⊎ Among s ys
among_split s [] ys h = inr h
among_split s (x ∷ xs) ys (inl h) = inl (inl h)
among_split s (x ∷ xs) ys (inr h) = by (among_split s xs ys h)
  where
    by : Among s xs ⊎ Among s ys → Among s (x ∷ xs) ⊎ Among s ys
    by (inl i) = inl (inr i)
    by (inr i) = inr i

-- ---- the actuals of one instance

abbrev nothing : Actual
nothing = Hands (S.Number (pos 0))

abbrev pub picks : (Actual → Bool) → ℕ → ℕ → List Actual → List Side
picks test i q [] = []
picks test i q (a ∷ rest) = cond (test a) (side_at i q ∷ picks test i (suc q) rest) (picks test i (suc q) rest)

complete_picks : (test : Actual → Bool) (i q k : ℕ) (rest : List Actual) → k < length rest → test (slice_index_or rest k nothing) ≡ true → Among (side_at i (q + k)) (picks test i q rest)
complete_picks test i q k [] lt h = absurd (omega arith)
complete_picks test i q zero (a ∷ rest) lt h =
    let same : q + 0 ≡ q = omega arith in
    subst (λ b. Among (side_at i (q + 0)) (cond b (side_at i q ∷ picks test i (suc q) rest) (picks test i (suc q) rest))) (sym h) (inl (ap (side_at i) same))
complete_picks test i q (suc k) (a ∷ rest) lt h =
    let same : suc q + k ≡ q + suc k = omega arith in
    by (test a) (subst (λ z. Among (side_at i z) (picks test i (suc q) rest)) same (complete_picks test i (suc q) k rest (omega arith) h))
  where
    by : (b : Bool) → Among (side_at i (q + suc k)) (picks test i (suc q) rest) → Among (side_at i (q + suc k)) (cond b (side_at i q ∷ picks test i (suc q) rest) (picks test i (suc q) rest))
    by true i = inr i
    by false i = i

sound_picks : (test : Actual → Bool) (i q : ℕ) (s : Side) (rest : List Actual) → Among s (picks test i q rest) →
    (k : ℕ) × (k < length rest) × (s ≡ side_at i (q + k)) × (test (slice_index_or rest k nothing) ≡ true)
sound_picks test i q s [] h = absurd h
sound_picks test i q s (a ∷ rest) h = by (test a) refl h (λ i'. sound_picks test i (suc q) s rest i')
  where
    later : (k : ℕ) × (k < length rest) × (s ≡ side_at i (suc q + k)) × (test (slice_index_or rest k nothing) ≡ true) →
        (k : ℕ) × (k < length (a ∷ rest)) × (s ≡ side_at i (q + k)) × (test (slice_index_or (a ∷ rest) k nothing) ≡ true)
    later r =
        let same : suc q + r.0 ≡ q + suc r.0 = omega arith in
        let lt : r.0 < length rest = r.1 in
        (suc r.0, omega (arith, lt), r.2 ∙ ap (side_at i) same, r.3)

    by : (b : Bool) → test a ≡ b → Among s (cond b (side_at i q ∷ picks test i (suc q) rest) (picks test i (suc q) rest)) →
        (Among s (picks test i (suc q) rest) → (k : ℕ) × (k < length rest) × (s ≡ side_at i (suc q + k)) × (test (slice_index_or rest k nothing) ≡ true)) →
        (k : ℕ) × (k < length (a ∷ rest)) × (s ≡ side_at i (q + k)) × (test (slice_index_or (a ∷ rest) k nothing) ≡ true)
    by true e (inl j) go = let same : q ≡ q + 0 = omega arith in (0, omega arith, j ∙ ap (side_at i) same, e)
    by true e (inr j) go = later (go j)
    by false e j go = later (go j)

-- ---- all instances

abbrev pub picked : (Actual → Bool) → ℕ → List Node → List Side
picked test i [] = []
picked test i (x ∷ xs) = picks test i 0 x.actuals ++ picked test (suc i) xs

complete_picked : (test : Actual → Bool) (i p k : ℕ) (xs : List Node) → p < length xs → k < length (slice_index_or xs p idle).actuals →
    test (actual_at (slice_index_or xs p idle) k) ≡ true → Among (side_at (i + p) k) (picked test i xs)
complete_picked test i p k [] lt lk h = absurd (omega arith)
complete_picked test i zero k (x ∷ xs) lt lk h =
    let same : i ≡ i + 0 = omega arith in
    let from : 0 + k ≡ k = omega arith in
    let first = subst (λ z. Among (side_at i z) (picks test i 0 x.actuals)) from (complete_picks test i 0 k x.actuals lk h) in
    subst (λ z. Among (side_at z k) (picked test i (x ∷ xs))) same (among_left (side_at i k) (picks test i 0 x.actuals) (picked test (suc i) xs) first)
complete_picked test i (suc p) k (x ∷ xs) lt lk h =
    let same : suc i + p ≡ i + suc p = omega arith in
    among_right (side_at (i + suc p) k) (picks test i 0 x.actuals) (picked test (suc i) xs) (subst (λ z. Among (side_at z k) (picked test (suc i) xs)) same (complete_picked test (suc i) p k xs (omega arith) lk h))

-- where a member of the list stands
pub record Found (test : Actual → Bool) (i : ℕ) (s : Side) (xs : List Node) : Type 0 where
  pub place : ℕ
  pub within : place < length xs
  pub instance : s.instance ≡ i + place
  pub parameter : s.parameter < length (slice_index_or xs place idle).actuals
  pub passes : test (actual_at (slice_index_or xs place idle) s.parameter) ≡ true

sound_picked : (test : Actual → Bool) (i : ℕ) (s : Side) (xs : List Node) → Among s (picked test i xs) → Found test i s xs
sound_picked test i s [] h = absurd h
sound_picked test i s (x ∷ xs) h = by (among_split s (picks test i 0 x.actuals) (picked test (suc i) xs) h) (λ j. sound_picked test (suc i) s xs j)
  where
    here : (k : ℕ) × (k < length x.actuals) × (s ≡ side_at i (0 + k)) × (test (slice_index_or x.actuals k nothing) ≡ true) → Found test i s (x ∷ xs)
    here r =
        let same : i ≡ i + 0 = omega arith in
        let from : 0 + r.0 ≡ r.0 = omega arith in
        let is : r.0 ≡ s.parameter = sym from ∙ sym (ap (λ (z : Side). z.parameter) r.2) in
        record {
          place = 0;
          within = omega arith;
          instance = ap (λ (z : Side). z.instance) r.2 ∙ same;
          parameter = subst (λ z. z < length x.actuals) is r.1;
          passes = subst (λ z. test (slice_index_or x.actuals z nothing) ≡ true) is r.3;
        }

    later : Found test (suc i) s xs → Found test i s (x ∷ xs)
    later r =
        let same : suc i + r.place ≡ i + suc r.place = omega arith in
        let lt : r.place < length xs = r.within in
        record { place = suc r.place; within = omega (arith, lt); instance = r.instance ∙ same; parameter = r.parameter; passes = r.passes }

    by : Among s (picks test i 0 x.actuals) ⊎ Among s (picked test (suc i) xs) → (Among s (picked test (suc i) xs) → Found test (suc i) s xs) → Found test i s (x ∷ xs)
    by (inl j) go = here (sound_picks test i 0 s x.actuals j)
    by (inr j) go = later (go j)

-- ---- a side of a network that passes a test

abbrev pub Passes : (Actual → Bool) → Schema → Side → Type 0
Passes test n s = IsWithin n s × (test (handed_at n s) ≡ true)

pub passing : (test : Actual → Bool) (n : Schema) (s : Side) → Passes test n s → Among s (picked test 0 n.instances)
passing test n s h =
    let from : 0 + s.instance ≡ s.instance = omega arith in
    subst (λ z. Among (side_at z s.parameter) (picked test 0 n.instances)) from (complete_picked test 0 s.instance s.parameter n.instances h.0.0 h.0.1 h.1)

pub passed : (test : Actual → Bool) (n : Schema) (s : Side) → Among s (picked test 0 n.instances) → Passes test n s
passed test n s h =
    let r = sound_picked test 0 s n.instances h in
    let from : 0 + r.place ≡ r.place = omega arith in
    let same : r.place ≡ s.instance = sym from ∙ sym r.instance in (
      (
        subst (λ z. z < length n.instances) same r.within,
        subst (λ z. s.parameter < length (slice_index_or n.instances z idle).actuals) same r.parameter,
      ),
      subst (λ z. test (actual_at (slice_index_or n.instances z idle) s.parameter) ≡ true) same r.passes,
    )

-- where at most one passes, it is the first of the list
pub only : (test : Actual → Bool) (n : Schema) (es : List Side) → picked test 0 n.instances ≡ es → AtMostOne es → IsOnly (Passes test n) (first es)
only test n [] is one = λ s h. subst (Among s) is (passing test n s h)
only test n (e ∷ []) is one = (passed test n e (subst (Among e) (sym is) (inl refl)), λ s h. alone s (subst (Among s) is (passing test n s h)))
  where
    alone : (s : Side) → Among s (e ∷ []) → s ≡ e
    alone s (inl h) = h
    alone s (inr h) = absurd h
only test n (e ∷ f ∷ es) is one = absurd one

-- the same of one property for another that says the same
pub only_as : (P Q : Side → Type 0) (o : Option Side) → ((s : Side) → P s → Q s) → ((s : Side) → Q s → P s) → IsOnly P o → IsOnly Q o
only_as P Q None to back h = λ s q. h s (back s q)
only_as P Q (Some e) to back h = (to e h.0, λ s q. h.1 s (back s q))

-- ---- the first writer

abbrev pub first_source : List Side → Source
first_source [] = Nobody
first_source (e ∷ es) = Written e.instance

pub first_picked : (c i : ℕ) (xs : List Node) → first_writer xs i c ≡ first_source (picked (λ a. is_written a c) i xs)
first_picked c i [] = refl
first_picked c i (x ∷ xs) = by 0 x.actuals (first_picked c (suc i) xs)
  where
    by : (q : ℕ) (rest : List Actual) → first_writer xs (suc i) c ≡ first_source (picked (λ a. is_written a c) (suc i) xs) →
        cond (any_written rest c) (Written i) (first_writer xs (suc i) c) ≡ first_source (picks (λ a. is_written a c) i q rest ++ picked (λ a. is_written a c) (suc i) xs)
    by q [] h = h
    by q (a ∷ rest) h = one (is_written a c) (by (suc q) rest h)
      where
        one : (b : Bool) → cond (any_written rest c) (Written i) (first_writer xs (suc i) c) ≡ first_source (picks (λ a. is_written a c) i (suc q) rest ++ picked (λ a. is_written a c) (suc i) xs) →
            cond (cond b true (any_written rest c)) (Written i) (first_writer xs (suc i) c)
            ≡ first_source (cond b (side_at i q ∷ picks (λ a. is_written a c) i (suc q) rest) (picks (λ a. is_written a c) i (suc q) rest) ++ picked (λ a. is_written a c) (suc i) xs)
        one true j = refl
        one false j = j
