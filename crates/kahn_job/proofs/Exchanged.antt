-- Ends of parameters that come and go.
use Rattle.kahn_job.proofs.Common.{◌≡◌, ◌⊎◌, inl, inr, ⊎_elim, ℕ, List, refl, sym, ap, ◌∙◌, subst, Some, Ok, Err, Result, same_Some, Side, side_at, Lists, LaneName, moved_to, TaskEnd, ShareLane, HasStayed, HasPlace, HaveStayed, end_in, end_of_side, no_end, placed, AreElsewhere, BothSettle, GoesOrStays, HasSettled, HaveExchanged, OnErr, OnOk}
use Rattle.kahn_job.proofs.{Berthed.stayed_self, Handed.Found, Handed.found, Handed.placed_count, Handed.placed_sizes, Handed.still_place}

here_at : (rows : List (List TaskEnd)) (s : Side) (e : TaskEnd) → HasPlace rows s → end_of_side (placed rows (Some s) e) s ≡ e
here_at rows s e h = by (found rows (Some s) e h s.instance s.parameter)
  where
    by : Found rows (Some s) e s.instance s.parameter → end_of_side (placed rows (Some s) e) s ≡ e
    by (inl a) = a.1
    by (inr b) = absurd (b.0 refl)

pub else_at : (rows : List (List TaskEnd)) (s : Side) (e : TaskEnd) → HasPlace rows s → (p q : ℕ) → (side_at p q ≡ s → ⊥) →
    end_in (placed rows (Some s) e) p q ≡ end_in rows p q
else_at rows s e h p q n = by (found rows (Some s) e h p q)
  where
    by : Found rows (Some s) e p q → end_in (placed rows (Some s) e) p q ≡ end_in rows p q
    by (inl a) = absurd (n (sym (same_Some _ _ a.0)))
    by (inr b) = b.1

-- either it is this one or it isn't
side_or : (rows : List (List TaskEnd)) (s : Side) → HasPlace rows s → (p q : ℕ) → (side_at p q ≡ s) ⊎ (side_at p q ≡ s → ⊥)
side_or rows s h p q = by (found rows (Some s) no_end h p q)
  where
    by : Found rows (Some s) no_end p q → (side_at p q ≡ s) ⊎ (side_at p q ≡ s → ⊥)
    by (inl a) = inl (sym (same_Some _ _ a.0))
    by (inr b) = inr (λ e. b.0 (ap Some (sym e)))

-- two ends, d and e, were taken out, and x and y came in their places
module _ (rows mid now : List (List TaskEnd)) (w r : Side) (places : HasPlace rows w × HasPlace rows r) (apart : w ≡ r → ⊥) (a b d e x y : TaskEnd)
    (out : mid ≡ placed (placed rows (Some w) a) (Some r) b) (ends : (d ≡ end_of_side rows w) × (e ≡ end_of_side rows r))
    (back : now ≡ placed (placed mid (Some w) x) (Some r) y) where
  abbrev one : List (List TaskEnd)
  one = placed rows (Some w) a

  abbrev two : List (List TaskEnd)
  two = placed one (Some r) b

  abbrev three : List (List TaskEnd)
  three = placed two (Some w) x

  is : now ≡ placed three (Some r) y
  is = back ∙ ap (λ z. placed (placed z (Some w) x) (Some r) y) out

  one_r : HasPlace one r
  one_r = still_place rows (Some w) (Some r) a places.0 places.1

  two_w : HasPlace two w
  two_w = still_place one (Some r) (Some w) b one_r (still_place rows (Some w) (Some w) a places.0 places.0)

  three_r : HasPlace three r
  three_r = still_place two (Some w) (Some r) x two_w (still_place one (Some r) (Some r) b one_r one_r)

  at_reader : end_of_side now r ≡ y
  at_reader = ap (λ z. end_of_side z r) is ∙ here_at three r y three_r

  at_writer : end_of_side now w ≡ x
  at_writer = ap (λ z. end_of_side z w) is ∙ else_at three r y three_r w.instance w.parameter apart ∙ here_at two w x two_w

  elsewhere : AreElsewhere (λ s. (s ≡ w) ⊎ (s ≡ r)) rows now
  elsewhere = subst (AreElsewhere (λ s. (s ≡ w) ⊎ (s ≡ r)) rows) (sym is) (record {
    count = placed_count three (Some r) y ∙ placed_count two (Some w) x ∙ placed_count one (Some r) b ∙ placed_count rows (Some w) a;
    sizes = λ p. placed_sizes three (Some r) y three_r p ∙ placed_sizes two (Some w) x two_w p ∙
        placed_sizes one (Some r) b one_r p ∙ placed_sizes rows (Some w) a places.0 p;
    others = λ p q n. else_at three r y three_r p q (λ e. n (inr e)) ∙ else_at two w x two_w p q (λ e. n (inl e)) ∙
        else_at one r b one_r p q (λ e. n (inr e)) ∙ else_at rows w a places.0 p q (λ e. n (inl e));
  })

  at_both : (so : TaskEnd → TaskEnd → Type 0) → so d x × so e y → so (end_of_side rows w) (end_of_side now w) × so (end_of_side rows r) (end_of_side now r)
  at_both so s = (
    subst (λ z. so z (end_of_side now w)) ends.0 (subst (so d) (sym at_writer) s.0),
    subst (λ z. so z (end_of_side now r)) ends.1 (subst (so e) (sym at_reader) s.1),
  )

  -- where the two that came stand so to those that were taken out, all do
  each_end : (so : TaskEnd → TaskEnd → Type 0) → ((e : TaskEnd) → so e e) → so d x × so e y → (p q : ℕ) → so (end_in rows p q) (end_in now p q)
  each_end so self s p q = by (side_or rows w places.0 p q) (side_or rows r places.1 p q)
    where
      by : (side_at p q ≡ w) ⊎ (side_at p q ≡ w → ⊥) → (side_at p q ≡ r) ⊎ (side_at p q ≡ r → ⊥) → so (end_in rows p q) (end_in now p q)
      by (inl a) b = subst (λ s. so (end_of_side rows s) (end_of_side now s)) (sym a) (at_both so s).0
      by (inr a) (inl b) = subst (λ s. so (end_of_side rows s) (end_of_side now s)) (sym b) (at_both so s).1
      by (inr a) (inr b) = subst (so (end_in rows p q)) (sym (elsewhere.others p q (⊎_elim a b))) (self (end_in rows p q))

  -- they met meanwhile
  pub stayed : HasStayed d x × HasStayed e y → HaveStayed rows now
  stayed s = record { count = elsewhere.count; sizes = elsewhere.sizes; each = each_end HasStayed stayed_self s }

  -- they have settled, or the same two came back
  pub exchanged : (lists : Lists) {A E : Type 0} (result : Result A E) → OnOk result (ShareLane x y) →
      OnOk result ((n : LaneName) → d.name ≡ Some n → BothSettle (moved_to lists n) d e x y) → OnErr result ((x ≡ d) × (y ≡ e)) →
      GoesOrStays result (HaveExchanged lists w r) rows now
  exchanged lists (Ok v) lane settled same = record {
    elsewhere = elsewhere;
    lane = subst (λ z. ShareLane z (end_of_side now r)) (sym at_writer) (subst (ShareLane x) (sym at_reader) lane);
    both = λ n i. at_both (HasSettled (moved_to lists n)) (settled n (ap (λ (z : TaskEnd). z.name) ends.0 ∙ i));
  }
  exchanged lists (Err f) lane settled same = record {
    count = elsewhere.count;
    sizes = elsewhere.sizes;
    others = λ p q _. each_end (λ a b. b ≡ a) (λ e. refl) same p q;
  }
