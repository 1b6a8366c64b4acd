-- The ends of a channel come to the parameters that it is handed to.
use Rattle.kahn_job.proofs.Common.{arith, ◌≡◌, ◌⊎◌, inl, inr, ℕ, ◌+◌, ◌<◌, List, [], length, refl, sym, ap, ◌∙◌, subst, Option, Some, None, IfSome, slice_set, slice_index_or, cases_eq, length-set, get_or-set_same, get_or-set_other, none-some, same_Some, Program, Role, Side, Inner, Input, Output, Schema, Actual, Reads, Writes, Hands, network_of, instance_at, actual_at, role_at, IsWriter, IsReader, IsOnly, IsWithin, IsWellWired, side_at, IsFed, handed_within, reads, writes, Joins, TaskEnd, ShareLane, end_at, AreJoinedOn, HasPlace, end_in, AreEndsSo, no_end, placed}
use Rattle.kahn_job.proofs.Settles.{is_inner}
use Rattle.kahn_job.specs.inner.Words.{Waiting, given_of, taken_of, waiting_of}

-- a row for each instance, in which the parameters have the ends of the first k channels, and what is so of those and of all
pub record AreHanded (t : Program) (so : Actual → TaskEnd → Type 0) (whole : TaskEnd → Type 0) (k : ℕ) (rows : List (List TaskEnd)) : Type 0 where
  pub count : length rows ≡ length (network_of t).instances
  pub sizes : (p : ℕ) → length (slice_index_or rows p []) ≡ length (instance_at (network_of t) p).actuals
  pub each : (p q d : ℕ) → Joins (actual_at (instance_at (network_of t) p) q) d → d < k →
      so (actual_at (instance_at (network_of t) p) q) (end_in rows p q)
  pub joined : (d : ℕ) → d < k → AreJoinedOn (network_of t) rows d
  pub every : (p q : ℕ) → whole (end_in rows p q)

-- a parameter has the new end or the old one
abbrev pub Found : List (List TaskEnd) → Option Side → TaskEnd → ℕ → ℕ → Type 0
Found rows side e p q =
    ((side ≡ Some (side_at p q)) × (end_in (placed rows side e) p q ≡ e))
    ⊎ ((side ≡ Some (side_at p q) → ⊥) × (end_in (placed rows side e) p q ≡ end_in rows p q))

pub found : (rows : List (List TaskEnd)) (side : Option Side) (e : TaskEnd) → IfSome side (HasPlace rows) → (p q : ℕ) → Found rows side e p q
found rows None e h p q = inr (none-some (side_at p q), refl)
found rows (Some s) e h p q = by (cases_eq p s.instance) (cases_eq q s.parameter)
  where
    row : List TaskEnd
    row = slice_set (slice_index_or rows s.instance []) s.parameter e

    by : (p ≡ s.instance) ⊎ (p ≡ s.instance → ⊥) → (q ≡ s.parameter) ⊎ (q ≡ s.parameter → ⊥) → Found rows (Some s) e p q
    by (inr n) y = inr (λ i. n (ap (λ (u : Side). u.instance) (sym (same_Some _ _ i))), ap (λ r. end_at r q) (get_or-set_other rows s.instance p row [] n))
    by (inl x) (inr n) = inr (
      λ i. n (ap (λ (u : Side). u.parameter) (sym (same_Some _ _ i))),
      ap (λ k. end_at (slice_index_or (slice_set rows s.instance row) k []) q) x ∙ ap (λ r. end_at r q) (get_or-set_same rows s.instance row [] h.0) ∙
          get_or-set_other (slice_index_or rows s.instance []) s.parameter q e no_end n ∙ ap (λ k. end_at (slice_index_or rows k []) q) (sym x),
    )
    by (inl x) (inl y) = inl (
      ap Some (λ i. record { instance = sym x i; parameter = sym y i }),
      ap (λ k. end_at (slice_index_or (slice_set rows s.instance row) k []) q) x ∙ ap (λ r. end_at r q) (get_or-set_same rows s.instance row [] h.0) ∙
          ap (end_at row) y ∙ get_or-set_same (slice_index_or rows s.instance []) s.parameter e no_end h.1,
    )

pub placed_count : (rows : List (List TaskEnd)) (side : Option Side) (e : TaskEnd) → length (placed rows side e) ≡ length rows
placed_count rows None e = refl
placed_count rows (Some s) e = length-set rows s.instance (slice_set (slice_index_or rows s.instance []) s.parameter e)

pub placed_sizes : (rows : List (List TaskEnd)) (side : Option Side) (e : TaskEnd) → IfSome side (HasPlace rows) → (p : ℕ) →
    length (slice_index_or (placed rows side e) p []) ≡ length (slice_index_or rows p [])
placed_sizes rows None e h p = refl
placed_sizes rows (Some s) e h p = by (cases_eq p s.instance)
  where
    row : List TaskEnd
    row = slice_set (slice_index_or rows s.instance []) s.parameter e

    by : (p ≡ s.instance) ⊎ (p ≡ s.instance → ⊥) → length (slice_index_or (slice_set rows s.instance row) p []) ≡ length (slice_index_or rows p [])
    by (inr n) = ap (λ (r : List TaskEnd). length r) (get_or-set_other rows s.instance p row [] n)
    by (inl x) =
        ap (λ k. length (slice_index_or (slice_set rows s.instance row) k [])) x ∙ ap (λ (r : List TaskEnd). length r) (get_or-set_same rows s.instance row [] h.0) ∙
        length-set (slice_index_or rows s.instance []) s.parameter e ∙ ap (λ k. length (slice_index_or rows k [])) (sym x)

pub has_place : (t : Program) (so : Actual → TaskEnd → Type 0) (whole : TaskEnd → Type 0) (k : ℕ) (rows : List (List TaskEnd)) (side : Option Side) (P : Side → Type 0) →
    AreHanded t so whole k rows →
    ((s : Side) → P s → IsWithin (network_of t) s) → IsOnly P side → IfSome side (HasPlace rows)
has_place t so whole k rows None P h w only = tt
has_place t so whole k rows (Some s) P h w only =
    let i = w s only.0 in (subst (λ n. s.instance < n) (sym h.count) i.0, subst (λ n. s.parameter < n) (sym (h.sizes s.instance)) i.1)

-- a place is there after another end came
pub still_place : (rows : List (List TaskEnd)) (side other : Option Side) (e : TaskEnd) → IfSome side (HasPlace rows) → IfSome other (HasPlace rows) → IfSome other (HasPlace (placed rows side e))
still_place rows side None e h o = tt
still_place rows side (Some u) e h o = (subst (λ n. u.instance < n) (sym (placed_count rows side e)) o.0, subst (λ n. u.parameter < n) (sym (placed_sizes rows side e h u.instance)) o.1)

-- the one that passes is the one that was found
only_one : (P : Side → Type 0) (side : Option Side) (s : Side) → IsOnly P side → P s → side ≡ Some s
only_one P None s none p = absurd (none s p)
only_one P (Some u) s one p = ap Some (sym (one.1 s p))

only_passes : (P : Side → Type 0) (side : Option Side) (s : Side) → IsOnly P side → side ≡ Some s → P s
only_passes P None s none e = absurd (none-some s e)
only_passes P (Some u) s one e = subst P (same_Some _ _ e) one.0

pub inner_is_not_input : {r : Role} → r ≡ Inner → r ≡ Input → ⊥
inner_is_not_input a b = let e : Inner ≡ Input = sym a ∙ b in absurd cc

-- what was given to a queue was taken or waits
pub given_is : (o : Option Waiting) → given_of o ≡ taken_of o + waiting_of o
given_is None = refl
given_is (Some w) = refl

module _ (t : Program) (wired : IsWellWired t) (so : Actual → TaskEnd → Type 0) (whole : TaskEnd → Type 0) (c : ℕ) (x y : TaskEnd) (e : AreEndsSo t so whole c x y) where
  abbrev N : Schema
  N = network_of t

  serves_reader : (p q : ℕ) → actual_at (instance_at N p) q ≡ Reads c → so (actual_at (instance_at N p) q) y
  serves_reader p q r = subst (λ a. so a y) (sym r) (e.takes (never (reads t wired p q c r)))
    where
      never : IsFed N c → role_at N c ≡ Output → ⊥
      never (inl f) o = let e : Input ≡ Output = sym f.1 ∙ o in absurd cc
      never (inr f) o = let e : Inner ≡ Output = sym f.4 ∙ o in absurd cc

  serves_writer : (p q : ℕ) → actual_at (instance_at N p) q ≡ Writes c → so (actual_at (instance_at N p) q) x
  serves_writer p q w = subst (λ a. so a x) (sym w) (e.puts (writes t wired p q c w).1)

  module _ (rows : List (List TaskEnd)) (h : AreHanded t so whole c rows) (w r : Option Side) (ow : IsOnly (IsWriter N c) w) (oo : IsOnly (IsReader N c) r) where
    abbrev first : List (List TaskEnd)
    first = placed rows w x

    pub place_w : IfSome w (HasPlace rows)
    place_w = has_place t so whole c rows w (IsWriter N c) h (λ s p. p.0) ow

    pub place_r : IfSome r (HasPlace first)
    place_r = still_place rows w r x place_w (has_place t so whole c rows r (IsReader N c) h (λ s p. p.0) oo)

    -- what was handed over before is none of this channel
    before : (p q d : ℕ) (a : Actual) → actual_at (instance_at N p) q ≡ a → (w ≡ Some (side_at p q) → ⊥) → (r ≡ Some (side_at p q) → ⊥) →
        Joins a d → d < c + 1 → so (actual_at (instance_at N p) q) (end_in rows p q)
    before p q d a is nw nr j l = by (cases_eq d c)
      where
        here : (a : Actual) → actual_at (instance_at N p) q ≡ a → Joins a c → ⊥
        here (Reads b) i j =
            let at : actual_at (instance_at N p) q ≡ Reads c = i ∙ ap Reads j in
            nr (only_one (IsReader N c) r (side_at p q) oo (handed_within N p q c (subst (λ a. Joins a c) (sym i) j), at))
        here (Writes b) i j =
            let at : actual_at (instance_at N p) q ≡ Writes c = i ∙ ap Writes j in
            nw (only_one (IsWriter N c) w (side_at p q) ow (handed_within N p q c (subst (λ a. Joins a c) (sym i) j), at))
        here (Hands v) i j = j

        by : (d ≡ c) ⊎ (d ≡ c → ⊥) → so (actual_at (instance_at N p) q) (end_in rows p q)
        by (inl s) = absurd (here a is (subst (Joins a) s j))
        by (inr n) = h.each p q d (subst (λ a. Joins a d) (sym is) j) (omega arith)

    writer_end : (p o : ℕ) → actual_at (instance_at N p) o ≡ Writes c → Found first r y p o → Found rows w x p o → end_in (placed first r y) p o ≡ x
    writer_end p o i (inl a) b = let e : Reads c ≡ Writes c = sym (only_passes (IsReader N c) r (side_at p o) oo a.0).1 ∙ i in absurd cc
    writer_end p o i (inr a) (inl b) = a.1 ∙ b.1
    writer_end p o i (inr a) (inr b) =
        absurd (b.0 (only_one (IsWriter N c) w (side_at p o) ow (handed_within N p o c (subst (λ a. Joins a c) (sym i) refl), i)))

    reader_end : (p q : ℕ) → actual_at (instance_at N p) q ≡ Reads c → Found first r y p q → end_in (placed first r y) p q ≡ y
    reader_end p q i (inl a) = a.1
    reader_end p q i (inr a) =
        absurd (a.0 (only_one (IsReader N c) r (side_at p q) oo (handed_within N p q c (subst (λ a. Joins a c) (sym i) refl), i)))

    -- the ends of another channel stay where they are
    else_end : (p q d : ℕ) → Joins (actual_at (instance_at N p) q) d → (d ≡ c → ⊥) → Found first r y p q → Found rows w x p q →
        end_in (placed first r y) p q ≡ end_in rows p q
    else_end p q d j n (inl a) b =
        absurd (n (sym (subst (λ z. Joins z d) (only_passes (IsReader N c) r (side_at p q) oo a.0).1 j)))
    else_end p q d j n (inr a) (inl b) =
        absurd (n (sym (subst (λ z. Joins z d) (only_passes (IsWriter N c) w (side_at p q) ow b.0).1 j)))
    else_end p q d j n (inr a) (inr b) = a.1 ∙ b.1

    both_ends : (d : ℕ) → d < c + 1 → (d ≡ c) ⊎ (d ≡ c → ⊥) → AreJoinedOn N (placed first r y) d
    both_ends d l (inl same) p s o q i j =
        let i' : actual_at (instance_at N p) o ≡ Writes c = i ∙ ap Writes same in
        let j' : actual_at (instance_at N s) q ≡ Reads c = j ∙ ap Reads same in
        subst (λ z. ShareLane z (end_in (placed first r y) s q)) (sym (writer_end p o i' (found first r y place_r p o) (found rows w x place_w p o)))
        (subst (λ z. ShareLane x z) (sym (reader_end s q j' (found first r y place_r s q))) (e.lane (is_inner t wired c p o s q i' j')))
    both_ends d l (inr n) p s o q i j =
        subst (λ z. ShareLane z (end_in (placed first r y) s q))
        (sym (else_end p o d (subst (λ a. Joins a d) (sym i) refl) n (found first r y place_r p o) (found rows w x place_w p o)))
        (subst (λ z. ShareLane (end_in rows p o) z)
        (sym (else_end s q d (subst (λ a. Joins a d) (sym j) refl) n (found first r y place_r s q) (found rows w x place_w s q)))
        (h.joined d (omega arith) p s o q i j))

    pub handed_more : AreHanded t so whole (c + 1) (placed first r y)
    handed_more = record {
      count = placed_count first r y ∙ placed_count rows w x ∙ h.count;
      sizes = λ p. placed_sizes first r y place_r p ∙ placed_sizes rows w x place_w p ∙ h.sizes p;
      each = λ p q d j l. at p q d j l (found first r y place_r p q) (found rows w x place_w p q);
      joined = λ d l. both_ends d l (cases_eq d c);
      every = λ p q. new p q (found first r y place_r p q) (found rows w x place_w p q);
    }
      where
        at : (p q d : ℕ) → Joins (actual_at (instance_at N p) q) d → d < c + 1 → Found first r y p q → Found rows w x p q →
            so (actual_at (instance_at N p) q) (end_in (placed first r y) p q)
        at p q d j l (inl a) b =
            subst (λ z. so (actual_at (instance_at N p) q) z) (sym a.1)
            (serves_reader p q (only_passes (IsReader N c) r (side_at p q) oo a.0).1)
        at p q d j l (inr a) (inl b) =
            subst (λ z. so (actual_at (instance_at N p) q) z) (sym (a.1 ∙ b.1))
            (serves_writer p q (only_passes (IsWriter N c) w (side_at p q) ow b.0).1)
        at p q d j l (inr a) (inr b) =
            subst (λ z. so (actual_at (instance_at N p) q) z) (sym (a.1 ∙ b.1)) (before p q d _ refl b.0 a.0 j l)

        new : (p q : ℕ) → Found first r y p q → Found rows w x p q → whole (end_in (placed first r y) p q)
        new p q (inl a) b = subst whole (sym a.1) e.every.1
        new p q (inr a) (inl b) = subst whole (sym (a.1 ∙ b.1)) e.every.0
        new p q (inr a) (inr b) = subst whole (sym (a.1 ∙ b.1)) (h.every p q)
