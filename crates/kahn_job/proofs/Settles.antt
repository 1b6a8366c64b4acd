-- The ends of channels go on with an input that has grown, channel by channel.
use Rattle.kahn_job.proofs.Common.{arith, ◌≡◌, ◌⊎◌, inl, inr, ⊎_elim, ℕ, ◌+◌, ◌<◌, ◌≤◌, Bool, true, false, List, length, refl, sym, ap, ◌∙◌, subst, None, Some, Result, Ok, Err, cases_eq, Program, Role, Side, Inner, Input, Output, Schema, Actual, Reads, Writes, Hands, network_of, instance_at, actual_at, role_at, IsWriter, IsReader, IsOnly, IsServed, IsFed, IsWellWired, side_at, handed_within, reads, writes, Lists, inputs_of, prefix_refl, is_output, Joins, lane_name, TaskEnd, IsFlushed, ShareLane, AreJoinedOn, AreSoOn, end_in, end_of_side, AreElsewhere, AreResting, AreSettled, GoesOrStays, CanFeed, CanSettle, HasExchanged, HasSettled, HaveExchanged, HasStood, HaveStood, IsCarried, IsOfBefore, ServedBefore, HasStayed, HaveStayed, AreBehindOn}
use Rattle.kahn_streams.proofs.Sided.{channel_served}
use Rattle.kahn_job.proofs.Berthed.{same_then, stayed_self}

-- ---- one channel

pub joins_one : (a : Actual) (c d : ℕ) → Joins a c → Joins a d → c ≡ d
joins_one (Reads b) c d i j = sym i ∙ j
joins_one (Writes b) c d i j = sym i ∙ j
joins_one (Hands v) c d i j = absurd i

joins_or : (a : Actual) (c : ℕ) → Joins a c ⊎ (Joins a c → ⊥)
joins_or (Reads d) c = cases_eq d c
joins_or (Writes d) c = cases_eq d c
joins_or (Hands v) c = inr (λ j. j)

false_or : (b : Bool) → (b ≡ false) ⊎ (b ≡ false → ⊥)
false_or false = inl refl
false_or true = inr (λ e. absurd cc)

both_or : {A B : Type 0} → A ⊎ (A → ⊥) → B ⊎ (B → ⊥) → (A × B) ⊎ (A × B → ⊥)
both_or (inl a) (inl b) = inl (a, b)
both_or (inr n) b = inr (λ x. n x.0)
both_or (inl a) (inr n) = inr (λ x. n x.1)

-- the two ends of a channel
module _ (so : TaskEnd → TaskEnd → Type 0) (N : Schema) where
  module _ (c : ℕ) (new : List (List TaskEnd)) where
    pub on_only : (w r : Side) → IsOnly (IsWriter N c) (Some w) → IsOnly (IsReader N c) (Some r) → so (end_of_side new w) (end_of_side new r) → AreSoOn so N new c
    on_only w r ow oo x p s o q i j =
        subst (λ u. so (end_of_side new u) (end_in new s q)) (sym (ow.1 (side_at p o) (handed_within N p o c (subst (λ a. Joins a c) (sym i) refl), i)))
        (subst (λ u. so (end_of_side new w) (end_of_side new u)) (sym (oo.1 (side_at s q) (handed_within N s q c (subst (λ a. Joins a c) (sym j) refl), j))) x)

    pub none_writes : IsOnly (IsWriter N c) None → AreSoOn so N new c
    none_writes none p s o q i j = absurd (none (side_at p o) (handed_within N p o c (subst (λ a. Joins a c) (sym i) refl), i))

    pub none_reads : IsOnly (IsReader N c) None → AreSoOn so N new c
    none_reads none p s o q i j = absurd (none (side_at s q) (handed_within N s q c (subst (λ a. Joins a c) (sym j) refl), j))

  -- they are as they were
  pub so_still : (old new : List (List TaskEnd)) (d : ℕ) → ((p q : ℕ) → Joins (actual_at (instance_at N p) q) d → end_in new p q ≡ end_in old p q) →
      AreSoOn so N old d → AreSoOn so N new d
  so_still old new d same h p r o q i j =
      subst (λ x. so x (end_in new r q)) (sym (same p o (subst (λ a. Joins a d) (sym i) refl)))
      (subst (λ x. so (end_in old p o) x) (sym (same r q (subst (λ a. Joins a d) (sym j) refl))) (h p r o q i j))

-- they are ends of the same lanes
pub same_lanes : (N : Schema) (old new : List (List TaskEnd)) (d : ℕ) → ((p q : ℕ) → (end_in new p q).lane ≡ (end_in old p q).lane) → AreJoinedOn N old d → AreJoinedOn N new d
same_lanes N old new d same h p r o q i j = let s = h p r o q i j in (s.0, same p o ∙ s.1, same r q ∙ s.2)

-- an end that is as it was stands where it stood
pub stood_same : (old new : TaskEnd) → new ≡ old → HasStood old new
stood_same old new e = record {
  next = ap (λ (x : TaskEnd). x.next) e;
  flushed = λ w. subst (λ (x : TaskEnd). old.flushed ≤ x.flushed) (sym e) (omega arith);
  writes = ap (λ (x : TaskEnd). x.writes) e;
}

-- a channel that is both written and read goes from process to process
pub is_inner : (t : Program) (wired : IsWellWired t) (c p o r q : ℕ) → actual_at (instance_at (network_of t) p) o ≡ Writes c →
    actual_at (instance_at (network_of t) r) q ≡ Reads c → role_at (network_of t) c ≡ Inner
is_inner t wired c p o r q i j = by (reads t wired r q c j)
  where
    by : IsFed (network_of t) c → role_at (network_of t) c ≡ Inner
    by (inl f) = absurd ((writes t wired p o c i).1 f.1)
    by (inr f) = f.4

module _ (t : Program) (wired : IsWellWired t) (lists : Lists) (rows : List (List TaskEnd)) (h : AreResting t lists rows) where
  abbrev N : Schema
  N = network_of t

  -- what is read is no output
  pub carried_read : (p q d : ℕ) → actual_at (instance_at N p) q ≡ Reads d → IsCarried t (actual_at (instance_at N p) q) d
  carried_read p q d e = (subst (λ a. Joins a d) (sym e) refl, by (reads t wired p q d e))
    where
      by : IsFed N d → is_output (role_at N d) ≡ false
      by (inl f) = ap is_output f.1
      by (inr f) = ap is_output f.4

  pub carried_write : (p q d : ℕ) → actual_at (instance_at N p) q ≡ Writes d → is_output (role_at N d) ≡ false → IsCarried t (actual_at (instance_at N p) q) d
  carried_write p q d e o = (subst (λ a. Joins a d) (sym e) refl, o)

  served_read : (s : Side) (c : ℕ) → IsReader N c s → ServedBefore t lists (Reads c) (end_of_side rows s)
  served_read s c i = subst (λ a. ServedBefore t lists a (end_of_side rows s)) i.1 (h.each s.instance s.parameter)

  served_write : (s : Side) (c : ℕ) → IsWriter N c s → ServedBefore t lists (Writes c) (end_of_side rows s)
  served_write s c i = subst (λ a. ServedBefore t lists a (end_of_side rows s)) i.1 (h.each s.instance s.parameter)

  module _ (c : ℕ) where
    pub can_settle : (w r : Side) → IsOnly (IsWriter N c) (Some w) → IsOnly (IsReader N c) (Some r) → CanSettle lists (end_of_side rows w) (end_of_side rows r)
    can_settle w r ow oo =
        let a = served_write w c ow.0 (ap is_output (is_inner t wired c w.instance w.parameter r.instance r.parameter ow.0.1 oo.0.1)) in
        let b = served_read r c oo.0 in
        record {
          ends = record { writes = a.0; reads = b.0; lane = h.joined c w.instance r.instance w.parameter r.parameter ow.0.1 oo.0.1 };
          grown = (lane_name t a.1.0 c, a.1.1, a.1.2);
        }

    pub can_feed : (r : Side) → IsOnly (IsWriter N c) None → IsOnly (IsReader N c) (Some r) → CanFeed lists (end_of_side rows r)
    can_feed r none oo =
        let b = served_read r c oo.0 in
        record {
          reads = b.0;
          bare = b.2 (by (reads t wired r.instance r.parameter c oo.0.1));
          grown = (lane_name t b.1.0 c, b.1.1, b.1.2);
        }
      where
        by : IsFed N c → role_at N c ≡ Input
        by (inl f) = f.1
        by (inr f) = absurd (none (side_at f.0 f.1) (handed_within N f.0 f.1 c (subst (λ a. Joins a c) (sym f.3) refl), f.3))

    -- who has the channel reads it or writes it
    has_side : (p q : ℕ) (a : Actual) → actual_at (instance_at N p) q ≡ a → Joins a c →
        IsReader N c (side_at p q) ⊎ IsWriter N c (side_at p q)
    has_side p q (Reads b) i j = inl (handed_within N p q c (subst (λ a. Joins a c) (sym i) j), i ∙ ap Reads j)
    has_side p q (Writes b) i j = inr (handed_within N p q c (subst (λ a. Joins a c) (sym i) j), i ∙ ap Writes j)
    has_side p q (Hands v) i j = absurd j

    side_of : (p q : ℕ) → Joins (actual_at (instance_at N p) q) c → IsReader N c (side_at p q) ⊎ IsWriter N c (side_at p q)
    side_of p q j = has_side p q (actual_at (instance_at N p) q) refl j

    pub lane_settled : (w r : Side) → IsOnly (IsWriter N c) (Some w) → IsOnly (IsReader N c) (Some r) → (new : List (List TaskEnd)) →
        HaveExchanged lists w r rows new → AreSettled t lists c rows new
    lane_settled w r ow oo new x = record {
      elsewhere = record { count = x.elsewhere.count; sizes = x.elsewhere.sizes; others = λ p q n. x.elsewhere.others p q (never p q n) };
      each = λ p q j. one p q (side_of p q j.0);
      joined = on_only ShareLane N c new w r ow oo x.lane;
    }
      where
        named : IsOfBefore t lists c (end_of_side rows w)
        named = (served_write w c ow.0 (ap is_output (is_inner t wired c w.instance w.parameter r.instance r.parameter ow.0.1 oo.0.1))).1

        one : (p q : ℕ) → IsReader N c (side_at p q) ⊎ IsWriter N c (side_at p q) → HasSettled (lane_name t lists c) (end_in rows p q) (end_in new p q)
        one p q (inl i) = subst (λ s. HasSettled (lane_name t lists c) (end_of_side rows s) (end_of_side new s)) (sym (oo.1 (side_at p q) i)) (x.both _ named.1).1
        one p q (inr i) = subst (λ s. HasSettled (lane_name t lists c) (end_of_side rows s) (end_of_side new s)) (sym (ow.1 (side_at p q) i)) (x.both _ named.1).0

        never : (p q : ℕ) → (IsCarried t (actual_at (instance_at N p) q) c → ⊥) → (side_at p q ≡ w) ⊎ (side_at p q ≡ r) → ⊥
        never p q n (inl e) = n (carried_write p q c (ap (λ (s : Side). actual_at (instance_at N s.instance) s.parameter) e ∙ ow.0.1) (ap is_output (is_inner t wired c w.instance w.parameter r.instance r.parameter ow.0.1 oo.0.1)))
        never p q n (inr e) = n (carried_read p q c (ap (λ (s : Side). actual_at (instance_at N s.instance) s.parameter) e ∙ oo.0.1))

    -- it has settled, or memory was refused
    pub lane_or : (w r : Side) → IsOnly (IsWriter N c) (Some w) → IsOnly (IsReader N c) (Some r) → (new : List (List TaskEnd)) {A E : Type 0} (result : Result A E) →
        GoesOrStays result (HaveExchanged lists w r) rows new → GoesOrStays result (AreSettled t lists c) rows new
    lane_or w r ow oo new (Ok u) x = lane_settled w r ow oo new x
    lane_or w r ow oo new (Err f) x = x

    pub feed_settled : (r : Side) → IsOnly (IsWriter N c) None → IsOnly (IsReader N c) (Some r) → (new : List (List TaskEnd)) → HasExchanged lists r rows new → AreSettled t lists c rows new
    feed_settled r none oo new x = record {
      elsewhere = record {
        count = x.elsewhere.count;
        sizes = x.elsewhere.sizes;
        others = λ p q n. x.elsewhere.others p q (λ e. n (carried_read p q c (ap (λ (s : Side). actual_at (instance_at N s.instance) s.parameter) e ∙ oo.0.1)));
      };
      each = λ p q j. one p q (side_of p q j.0);
      joined = none_writes ShareLane N c new none;
    }
      where
        one : (p q : ℕ) → IsReader N c (side_at p q) ⊎ IsWriter N c (side_at p q) → HasSettled (lane_name t lists c) (end_in rows p q) (end_in new p q)
        one p q (inl i) =
            subst (λ s. HasSettled (lane_name t lists c) (end_of_side rows s) (end_of_side new s)) (sym (oo.1 (side_at p q) i)) (x.reads _ (served_read r c oo.0).1.1)
        one p q (inr i) = absurd (none (side_at p q) i)

    -- a channel that nobody reads is an output, and nothing has to settle
    pub output_settled : c < length N.channels → IsOnly (IsReader N c) None → AreSettled t lists c rows rows
    output_settled lt none = record {
      elsewhere = record { count = refl; sizes = λ p. refl; others = λ p q n. refl };
      each = λ p q j. absurd (one p q (side_of p q j.0) j.1);
      joined = none_reads ShareLane N c rows none;
    }
      where
        by : (role : Role) → role_at N c ≡ role → IsServed N c role → is_output role ≡ false → ⊥
        by Inner e s o = none s.1.0 s.1.1.0
        by Input e s o = none s.1.0 s.1.1.0
        by Output e s o = absurd cc

        one : (p q : ℕ) → IsReader N c (side_at p q) ⊎ IsWriter N c (side_at p q) → is_output (role_at N c) ≡ false → ⊥
        one p q (inl i) o = none (side_at p q) i
        one p q (inr i) o = by (role_at N c) refl (channel_served t wired c lt) o

    -- an end that has settled is one for this input
    served_on : (a : Actual) (e f : TaskEnd) → Joins a c → HasSettled (lane_name t lists c) e f → ServedBefore t lists a e → ServedBefore t lists a f
    served_on (Reads d) e f j x b = (x.reads ∙ b.0, (lists, x.named ∙ ap (λ k. Some (lane_name t lists k)) (sym j), λ k. prefix_refl (inputs_of lists k)), λ r. x.bare (b.2 r))
    served_on (Writes d) e f j x b = λ o. (x.writes ∙ (b o).0, (lists, x.named ∙ ap (λ k. Some (lane_name t lists k)) (sym j), λ k. prefix_refl (inputs_of lists k)))
    served_on (Hands v) e f j x b = tt

    module _ (new : List (List TaskEnd)) (s : AreSettled t lists c rows new) where
      -- either the end is one of this channel, and has settled, or it is as it was
      abbrev Either : ℕ → ℕ → Type 0
      Either p q = (IsCarried t (actual_at (instance_at N p) q) c × HasSettled (lane_name t lists c) (end_in rows p q) (end_in new p q)) ⊎ (end_in new p q ≡ end_in rows p q)

      end_or : (p q : ℕ) → Either p q
      end_or p q = ⊎_elim (λ j. inl (j, s.each p q j)) (λ n. inr (s.elsewhere.others p q n)) (both_or (joins_or (actual_at (instance_at N p) q) c) (false_or (is_output (role_at N c))))

      pub stood_one : HaveStood rows new
      stood_one p q = by (end_or p q)
        where
          by : Either p q → HasStood (end_in rows p q) (end_in new p q)
          by (inl (j, x)) = record {
            next = x.next;
            flushed = λ w. let b = h.behind p q in let n = x.next in let f = x.flushed (x.writes ∙ w) in omega (arith, b, n, f);
            writes = x.writes;
          }
          by (inr e) = stood_same (end_in rows p q) (end_in new p q) e

      -- ends that go on with this input are still resting
      pub rests_on : AreResting t lists new
      rests_on = record {
        count = s.elsewhere.count ∙ h.count;
        sizes = λ p. s.elsewhere.sizes p ∙ h.sizes p;
        each = λ p q. served p q (end_or p q);
        behind = λ p q. behind p q (end_or p q);
        joined = λ d. ⊎_elim (λ e. subst (AreJoinedOn N new) (sym e) s.joined)
            (λ n. so_still ShareLane N rows new d (λ p q j. s.elsewhere.others p q (λ z. n (joins_one (actual_at (instance_at N p) q) d c j z.0))) (h.joined d)) (cases_eq d c);
      }
        where
          behind : (p q : ℕ) → Either p q → (end_in new p q).flushed ≤ (end_in new p q).next
          behind p q (inl x) = x.1.behind
          behind p q (inr e) = subst (λ (x : TaskEnd). x.flushed ≤ x.next) (sym e) (h.behind p q)

          served : (p q : ℕ) → Either p q → ServedBefore t lists (actual_at (instance_at N p) q) (end_in new p q)
          served p q (inl x) = served_on (actual_at (instance_at N p) q) (end_in rows p q) (end_in new p q) x.0.0 x.1 (h.each p q)
          served p q (inr e) = subst (ServedBefore t lists (actual_at (instance_at N p) q)) (sym e) (h.each p q)

-- ---- channel after channel

pub below_or : (d k : ℕ) → d < k + 1 → (d < k) ⊎ (d ≡ k)
below_or d k l = ⊎_elim inr (λ n. inl (omega arith)) (cases_eq d k)

pub stood_then : (old mid new : List (List TaskEnd)) → HaveStood old mid → HaveStood mid new → HaveStood old new
stood_then old mid new a b p q =
    let x = a p q in
    let y = b p q in
    record {
      next = y.next ∙ x.next;
      flushed = λ w. let f = x.flushed w in let g = y.flushed (x.writes ∙ w) in omega (arith, f, g);
      writes = y.writes ∙ x.writes;
    }

abbrev actual_in : Program → ℕ → ℕ → Actual
actual_in t p q = actual_at (instance_at (network_of t) p) q

-- it is an end for this input, and what was put is flushed
abbrev IsDone : Program → Lists → ℕ → TaskEnd → Type 0
IsDone t lists d e = (e.name ≡ Some (lane_name t lists d)) × IsFlushed e

-- of the first k channels the ends have settled, and all rest, where they stood
pub record AreGoing (t : Program) (lists : Lists) (k : ℕ) (old now : List (List TaskEnd)) : Type 0 where
  pub done : (p q d : ℕ) → IsCarried t (actual_in t p q) d → d < k → IsDone t lists d (end_in now p q)
  pub resting : AreResting t lists now
  pub stood : HaveStood old now

pub going_first : (t : Program) (lists : Lists) (rows : List (List TaskEnd)) → AreResting t lists rows → AreGoing t lists 0 rows rows
going_first t lists rows h = record {
  done = λ p q d j l. absurd (omega (arith, l));
  resting = h;
  stood = λ p q. stood_same (end_in rows p q) (end_in rows p q) refl;
}

pub going_on : (t : Program) (wired : IsWellWired t) (lists : Lists) (k : ℕ) (old now new : List (List TaskEnd)) → AreGoing t lists k old now →
    AreSettled t lists k now new → AreGoing t lists (k + 1) old new
going_on t wired lists k old now new g s = record {
  done = λ p q d j l. by p q d j (below_or d k l);
  resting = rests_on t wired lists now g.resting k new s;
  stood = stood_then old now new g.stood (stood_one t wired lists now g.resting k new s);
}
  where
    by : (p q d : ℕ) → IsCarried t (actual_in t p q) d → (d < k) ⊎ (d ≡ k) → IsDone t lists d (end_in new p q)
    by p q d j (inl l) = subst (IsDone t lists d) (sym (s.elsewhere.others p q (λ z. let same = joins_one (actual_in t p q) k d z.0 j.0 in absurd (omega (arith, same, l))))) (g.done p q d j l)
    by p q d j (inr e) = let x = s.each p q (subst (IsCarried t (actual_in t p q)) e j) in subst (λ n. IsDone t lists n (end_in new p q)) (sym e) (x.named, x.flushed)

-- ---- ends that meet

stayed_then : (d e f : TaskEnd) → HasStayed d e → HasStayed e f → HasStayed d f
stayed_then d e f a b = record {
  same = same_then d e f a.same b.same;
  next = b.next ∙ a.next;
  flushed = b.flushed ∙ a.flushed;
  ready = λ r. b.ready (a.ready r);
}

pub all_stayed : (rows : List (List TaskEnd)) → HaveStayed rows rows
all_stayed rows = record { count = refl; sizes = λ p. refl; each = λ p q. stayed_self (end_in rows p q) }

pub all_stayed_then : (old mid new : List (List TaskEnd)) → HaveStayed old mid → HaveStayed mid new → HaveStayed old new
all_stayed_then old mid new a b = record {
  count = b.count ∙ a.count;
  sizes = λ p. b.sizes p ∙ a.sizes p;
  each = λ p q. stayed_then (end_in old p q) (end_in mid p q) (end_in new p q) (a.each p q) (b.each p q);
}

pub alike_stayed : (old new : List (List TaskEnd)) → AreElsewhere (λ s. ⊥) old new → HaveStayed old new
alike_stayed old new a = record {
  count = a.count;
  sizes = a.sizes;
  each = λ p q. subst (HasStayed (end_in old p q)) (sym (a.others p q (λ e. e))) (stayed_self (end_in old p q));
}

pub stood_still : (old new : List (List TaskEnd)) → HaveStayed old new → HaveStood old new
stood_still old new s p q =
    let x = s.each p q in
    let f = x.flushed in
    record { next = x.next; flushed = λ w. omega (arith, f); writes = x.same.writes }

pub rests_met : (t : Program) (lists : Lists) (old new : List (List TaskEnd)) → HaveStayed old new → AreResting t lists old → AreResting t lists new
rests_met t lists old new s h = record {
  count = s.count ∙ h.count;
  sizes = λ p. s.sizes p ∙ h.sizes p;
  each = λ p q. served p q (actual_at (instance_at (network_of t) p) q) (h.each p q);
  behind = λ p q. let b = h.behind p q in let n = (s.each p q).next in let f = (s.each p q).flushed in omega (arith, b, n, f);
  joined = λ d. same_lanes (network_of t) old new d (λ p q. (s.each p q).same.lane) (h.joined d);
}
  where
    served : (p q : ℕ) (a : Actual) → ServedBefore t lists a (end_in old p q) → ServedBefore t lists a (end_in new p q)
    served p q (Reads d) b = let x = (s.each p q).same in (x.reads ∙ b.0, (b.1.0, x.name ∙ b.1.1, b.1.2), λ r. x.lane ∙ b.2 r)
    served p q (Writes d) b = λ o. let x = (s.each p q).same in let y = b o in (x.writes ∙ y.0, (y.1.0, x.name ∙ y.1.1, y.1.2))
    served p q (Hands v) b = tt

-- a meeting later says the same of the ends before
pub behind_before : (N : Schema) (old now : List (List TaskEnd)) (c : ℕ) → HaveStayed old now → AreBehindOn N now c → AreBehindOn N old c
behind_before N old now c s h p r o q i j =
    let b = h p r o q i j in
    let n = (s.each r q).next in
    let f = (s.each p o).flushed in
    let within = b.within in
    record {
      within = omega (arith, within, n, f);
      more = λ g. let more = b.more ((s.each r q).ready g) in omega (arith, more, n, f);
    }
