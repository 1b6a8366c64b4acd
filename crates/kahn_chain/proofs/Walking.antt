-- The walk: what is marked, which only proofs see, leads to where it is.
use Rattle.kahn_chain.proofs.Common.{◌≡◌, ◌==◌, ◌||◌, ℕ, zero, suc, ◌+◌, ◌<◌, ◌≤◌, min, ◌⊎◌, inl, inr, ⊎_elim, List, [], ◌∷◌, length, Bool, true, false, get_or, set, replicate, length-set, refl, sym, subst, ◌∙◌, ap, arith, eq-eqb, eqb-true, get_or-set_same, get_or-set_other, cases_eq, cases_lt, length-replicate, slice_get, Schema, Awaits, Leads, stays, onward, LeadsOn, IsLeastOfRing, IsCause, IsRingMark, IsOnWay, IsHere, IsStop, IsWalked, Standing, Cause, Input, Stopped, Ring, End, Some, map, option_map, length-map, slice_get_within, slice_get-get_or, slice_get-map, slice_index_or, standing_of, stands}
use Rattle.kahn_chain.specs.declared.walk.Walked.{Walked}
use Rattle.kahn_chain.proofs.Leading.{Halts, then, one_on, on_ring, one_next, back, end_or_ring, input_halts, stopped_halts}

-- the standing of an instance with its end there
pub stands_there : (ends : List End) (p : ℕ) (d : End) (s : Standing) → p < length ends → s ≡ standing_of (slice_index_or ends p d).outcome → slice_get (map stands ends) p ≡ Some s
stands_there ends p d s here e = slice_get-map stands ends p ∙ ap (option_map stands) (slice_get-get_or ends p d here) ∙ ap Some (sym e)

-- how many are not marked
abbrev unmarked : List Bool → ℕ
unmarked [] = 0
unmarked (true ∷ rest) = unmarked rest
unmarked (false ∷ rest) = 1 + unmarked rest

one_less : (ms : List Bool) (i : ℕ) → i < length ms → get_or ms i false ≡ false → unmarked (set ms i true) < unmarked ms
one_less [] i le e = omega (arith, le)
one_less (true ∷ ms) zero le e = absurd cc
one_less (false ∷ ms) zero le e = omega arith
one_less (true ∷ ms) (suc i) le e = one_less ms i (omega (arith, le)) e
one_less (false ∷ ms) (suc i) le e = omega (arith, one_less ms i (omega (arith, le)) e)

abbrev IsMarked : List Bool → ℕ → Type 0
IsMarked ms q = get_or ms q false ≡ true

no_mark : (n q : ℕ) → IsMarked (replicate n false) q → ⊥
no_mark (suc n) (suc q) e = no_mark n q e
no_mark _ _ e = absurd cc

all_false : (n : ℕ) → unmarked (replicate n false) ≡ n
all_false zero = refl
all_false (suc n) = let e = all_false n in omega (arith, e)

none_left : (ms : List Bool) (i : ℕ) → i < length ms → unmarked ms ≤ 0 → IsMarked ms i
none_left [] i le u = absurd (omega (arith, le))
none_left (true ∷ ms) zero le u = refl
none_left (true ∷ ms) (suc i) le u = none_left ms i (omega (arith, le)) u
none_left (false ∷ ms) i le u = absurd (omega (arith, u))

either : (b : Bool) → (b ≡ true) ⊎ (b ≡ false)
either true = inl refl
either false = inr refl

-- what is marked leads to where the walk is after k steps, and nothing leads out of it but there
pub record Walks (N : Schema) (ss : List Standing) (first sought at least k : ℕ) (found : Bool) : Type 0 where
  pub marks : List Bool
  pub size : length marks ≡ length ss
  pub here : at < length ss
  pub leads : Leads N ss first at
  pub reached : Leads N ss first least
  pub low : least ≤ at
  pub marked : (q : ℕ) → IsMarked marks q → LeadsOn N ss q at × (least ≤ q)
  pub closed : (q c w : ℕ) → IsMarked marks q → Awaits N ss q c w → (w ≡ at) ⊎ IsMarked marks w
  pub begun : (first ≡ at) ⊎ IsMarked marks first
  pub few : (k + unmarked marks ≤ length ss) ⊎ IsMarked marks at
  pub found_so : found ≡ true → Leads N ss first sought
  pub not_yet : found ≡ false → (sought ≡ at → ⊥) × (IsMarked marks sought → ⊥)

module _ (N : Schema) (ss : List Standing) (first sought : ℕ) where
  pub begins : (found : Bool) → first < length ss → found ≡ (first == sought) → Walks N ss first sought first first 0 found
  begins found le is = record {
    marks = replicate (length ss) false;
    size = length-replicate (length ss) false;
    here = le;
    leads = stays;
    reached = stays;
    low = omega arith;
    marked = λ q m. absurd (no_mark (length ss) q m);
    closed = λ q c w m a. absurd (no_mark (length ss) q m);
    begun = inl refl;
    few = inl (let e = all_false (length ss) in omega (arith, e));
    found_so = λ h. subst (Leads N ss first) (eqb-true first sought (sym is ∙ h)) stays;
    not_yet = λ h. ((λ e. absurd (let same = eq-eqb first sought (sym e) in let unseen = sym is ∙ h in let bad : true ≡ false = sym same ∙ unseen in cc)), no_mark (length ss) sought);
  }

  -- all to which the waits lead is marked
  all_marked : (ms : List Bool) (q w : ℕ) → ((p c v : ℕ) → IsMarked ms p → Awaits N ss p c v → IsMarked ms v) → IsMarked ms q → Leads N ss q w → IsMarked ms w
  all_marked ms q w f k stays = k
  all_marked ms q w f k (onward {c = c} {w = v} a l) = all_marked ms v w f (f q c v k a) l

  module _ (at least k : ℕ) (found : Bool) (h : Walks N ss first sought at least k found) where
    now : IsMarked (set h.marks at true) at
    now = get_or-set_same h.marks at true false (omega (arith, h.here, h.size))

    before : (q : ℕ) → IsMarked (set h.marks at true) q → (q ≡ at) ⊎ IsMarked h.marks q
    before q m = ⊎_elim inl (λ ne. inr (sym (get_or-set_other h.marks at q true false ne) ∙ m)) (cases_eq q at)

    after : (q : ℕ) → (q ≡ at) ⊎ IsMarked h.marks q → IsMarked (set h.marks at true) q
    after q (inl e) = subst (IsMarked (set h.marks at true)) (sym e) now
    after q (inr m) = ⊎_elim (λ e. subst (IsMarked (set h.marks at true)) (sym e) now) (λ ne. get_or-set_other h.marks at q true false ne ∙ m) (cases_eq q at)

    unfound : found ≡ false → IsMarked (set h.marks at true) sought → ⊥
    unfound unseen m = ⊎_elim (h.not_yet unseen).0 (h.not_yet unseen).1 (before sought m)

    lowest : (q : ℕ) → IsMarked (set h.marks at true) q → least ≤ q
    lowest q m = ⊎_elim (λ e. let l = h.low in omega (arith, e, l)) (λ k. (h.marked q k).1) (before q m)

    -- with a mark where the walk is nothing leads out
    whole : (x : Cause) → IsStop N ss first x → ((c w : ℕ) → Awaits N ss at c w → IsMarked (set h.marks at true) w) → IsWalked N ss first sought (record { stop = x; least = least; found = found })
    whole x stop out = record { stop = stop; reached = h.reached; least = λ w l. lowest w (reach w l); found = by (either found) }
      where
        on : (p c v : ℕ) → IsMarked (set h.marks at true) p → Awaits N ss p c v → IsMarked (set h.marks at true) v
        on p c v m a = ⊎_elim (λ e. out c v (subst (λ x. Awaits N ss x c v) e a)) (λ k. after v (h.closed p c v k a)) (before p m)

        reach : (w : ℕ) → Leads N ss first w → IsMarked (set h.marks at true) w
        reach w l = all_marked (set h.marks at true) first w on (after first h.begun) l

        by : (found ≡ true) ⊎ (found ≡ false) → IsOnWay N ss first sought found
        by (inl seen) = subst (IsOnWay N ss first sought) (sym seen) (h.found_so seen)
        by (inr unseen) = subst (IsOnWay N ss first sought) (sym unseen) (λ l. unfound unseen (reach sought l))

    pub walks_out : (x : Cause) → IsHere N ss at x → IsWalked N ss first sought (record { stop = x; least = least; found = found })
    walks_out (Input y c) is =
        let e : slice_get ss at ≡ slice_get ss y = ap (slice_get ss) (sym is.0) in
        whole (Input y c) (subst (Leads N ss first) (sym is.0) h.leads, is.1.1, is.1.2) (λ d w a. absurd (input_halts N ss at c (e ∙ is.1.1) is.1.2 d w a))
    walks_out (Stopped y s) is =
        let e : slice_get ss at ≡ slice_get ss y = ap (slice_get ss) (sym is.0) in
        whole (Stopped y s) (subst (Leads N ss first) (sym is.0) h.leads, is.1.1, is.1.2) (λ d w a. absurd (stopped_halts N ss at s (e ∙ is.1.1) is.1.2 d w a))
    walks_out (Ring y) is = absurd is

    -- after so many steps it was there before
    pub walks_round : length ss ≤ k → IsWalked N ss first sought (record { stop = Ring at; least = least; found = found })
    walks_round le =
        let m : IsMarked h.marks at = ⊎_elim (λ f. none_left h.marks at (omega (arith, h.here, h.size)) (omega (arith, f, le))) (λ x. x) h.few in
        whole (Ring at) (h.leads, (h.marked at m).0) (λ c w a. after w (h.closed at c w m a))

    lower : (w : ℕ) → Leads N ss first w → Leads N ss first (min least w)
    lower w l = ⊎_elim (λ e. subst (Leads N ss first) (sym e) h.reached) (λ e. subst (Leads N ss first) (sym e) l) less
      where
        less : (min least w ≡ least) ⊎ (min least w ≡ w)
        less = ⊎_elim (λ lt. inl (omega (arith, lt))) (λ le. inr (omega (arith, le))) (cases_lt least w)

    pub walks_on : (c w : ℕ) → w < length ss → Awaits N ss at c w → Walks N ss first sought w (min least w) (k + 1) (found || (w == sought))
    walks_on c w le a =
        let there = then N ss first at w h.leads (onward a stays) in
        record {
          marks = set h.marks at true;
          size = length-set h.marks at true ∙ h.size;
          here = le;
          leads = there;
          reached = lower w there;
          low = omega arith;
          marked = λ q m. (
            ⊎_elim (λ e. (c, w, subst (λ x. Awaits N ss x c w) (sym e) a, stays)) (λ k. one_on N ss q at c w (h.marked q k).0 a) (before q m),
            (let l = lowest q m in omega (arith, l)),
          );
          closed = λ q d v m b. ⊎_elim (λ e. inl (one_next N ss at d v c w (subst (λ x. Awaits N ss x d v) e b) a)) (λ k. inr (after v (h.closed q d v k b))) (before q m);
          begun = inr (after first h.begun);
          few = few (either (get_or h.marks at false));
          found_so = λ seen. so (either found) seen;
          not_yet = λ unseen. not (either found) unseen;
        }
      where
        few : (get_or h.marks at false ≡ true) ⊎ (get_or h.marks at false ≡ false) → (k + 1 + unmarked (set h.marks at true) ≤ length ss) ⊎ IsMarked (set h.marks at true) w
        few (inl m) = inr (after w (h.closed at c w m a))
        few (inr m) = ⊎_elim (λ f. inl (let l = one_less h.marks at (omega (arith, h.here, h.size)) m in omega (arith, l, f))) (λ seen. absurd (let bad : true ≡ false = sym seen ∙ m in cc)) h.few

        so : (found ≡ true) ⊎ (found ≡ false) → (found || (w == sought)) ≡ true → Leads N ss first sought
        so (inl seen) e = h.found_so seen
        so (inr unseen) e = subst (Leads N ss first) (eqb-true w sought (sym (ap (λ b. b || (w == sought)) unseen) ∙ e)) (then N ss first at w h.leads (onward a stays))

        not : (found ≡ true) ⊎ (found ≡ false) → (found || (w == sought)) ≡ false → (sought ≡ w → ⊥) × (IsMarked (set h.marks at true) sought → ⊥)
        not (inl seen) e = absurd (let bad : true ≡ false = sym (ap (λ b. b || (w == sought)) seen) ∙ e in cc)
        not (inr unseen) e = (
          (λ s. let same = eq-eqb w sought (sym s) in let off = sym (ap (λ b. b || (w == sought)) unseen) ∙ e in let bad : true ≡ false = sym same ∙ off in absurd cc),
          unfound unseen,
        )

-- who is on a ring is one of the instances
pub ring_within : (N : Schema) (ends : List End) (z : ℕ) → LeadsOn N (map stands ends) z z → z < length ends
ring_within N ends z r =
    let l = slice_get_within (map stands ends) z _ r.2.0 in
    let n = length-map ends stands in
    omega (arith, l, n)

module _ (N : Schema) (ss : List Standing) (p : ℕ) where
  -- the walk once more from an instance of the ring
  pub least_of : (z : ℕ) (x : Walked) → Leads N ss p z → LeadsOn N ss z z → IsWalked N ss z p x → IsCause N ss p (Ring x.least) × IsRingMark N ss p x.found
  least_of z x l ring w = (
    (
      then N ss p z x.least l w.reached,
      record { ring = on_ring N ss z x.least ring w.reached; least = λ v k. w.least v (then N ss z x.least v w.reached k) },
    ),
    mark x.found w.found,
  )
    where
      mark : (b : Bool) → IsOnWay N ss z p b → IsRingMark N ss p b
      mark true f = on_ring N ss z p ring f
      mark false f = λ r. f (back N ss p z r l)

  pub no_ring_of : (x : Cause) → ((z : ℕ) → x ≡ Ring z → ⊥) → IsStop N ss p x → IsCause N ss p x × IsRingMark N ss p false
  no_ring_of (Input z c) not is = (is, (λ r. end_or_ring N ss p z p is.0 (input_halts N ss z c is.1 is.2) stays r))
  no_ring_of (Stopped z s) not is = (is, (λ r. end_or_ring N ss p z p is.0 (stopped_halts N ss z s is.1 is.2) stays r))
  no_ring_of (Ring z) not is = absurd (not z refl)
