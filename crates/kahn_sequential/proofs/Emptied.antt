-- Cells that let go of all that they kept, and how all stand.
use Rattle.kahn_sequential.proofs.Common.{⊎_elim, arith, ◌≡◌, ◌⊎◌, inl, inr, ℕ, zero, suc, ◌+◌, ◌<◌, ◌≤◌, true, Option, List, [], ◌∷◌, ◌++◌, length, map, refl, sym, ap, ◌∙◌, subst, Some, None, slice_get, slice_index_or, slice_set, length-set, HasForgotten, cases_eq, set_each, set_here, slice_get_read, length-map, Program, Input, network_of, instance_at, role_at, Lists, inputs_of, Token, StoodBy, AreQueued, taken_of, waiting_of, tokens, CellView, told_view, Gone, nothing_gone, Tapped, Seen, same_Some, seen_at, seen_of, unseen, AllStandBy, HasEmptied, IsLaid, IsSeated, StandsAsTold, Table, gone_in, table_of, told_in, HaveChanged, mapped_at, cases_lt, Lines as Queues, Woken, AreSpent, AreSpentBut, IsTakenFrom, IsWoken, HasSpent, IsSameTap, IsSpent, IsSpentBy, IsSpentTap}
use Rattle.kahn_sequential.proofs.{Benched.got, Benched.mapped, Benched.get_map, Tapping.found, Tapping.tap_at, Lists.old_item, Lists.map_changed, Lists.map_map}
use Rattle.kahn_streams.proofs.Given_values.{no_channel}

-- ---- what it makes of a bench

-- what is spent of the taps at their places
pub spent_of : (taps : List Tapped) → ((p : ℕ) (x : Tapped) → slice_get taps p ≡ Some x → IsSpentTap x) → (p : ℕ) →
    IsSpentBy (slice_index_or (map gone_in taps) p nothing_gone) (seen_at (map seen_of (map told_in taps)) p).kept (seen_at (map seen_of (map told_in taps)) p).printed
spent_of [] h p = (λ q. refl, refl)
spent_of (x ∷ taps) h zero = h 0 x refl
spent_of (x ∷ taps) h (suc p) = spent_of taps (λ k. h (suc k)) p

pub spent_at : (taps : List Tapped) (p : ℕ) (x : Tapped) → slice_get taps p ≡ Some x →
    IsSpentBy (slice_index_or (map gone_in taps) p nothing_gone) (seen_at (map seen_of (map told_in taps)) p).kept (seen_at (map seen_of (map told_in taps)) p).printed → IsSpentTap x
spent_at [] p x e h = absurd cc
spent_at (y ∷ taps) zero x e h = subst IsSpentTap (same_Some y x e) h
spent_at (y ∷ taps) (suc p) x e h = spent_at taps p x e h

-- of a bench of these taps they are spent but those of instances that had turns
pub spent_taps : {t : Program} {lists : Lists} {watch : Option ℕ} {code : Program} (taps : List Tapped) {q : Queues} {b : Table} → table_of t lists watch code taps q ≡ b →
    (w : Woken) → AreSpent b w → w.known ≡ true → AreSpentBut w taps
spent_taps {t} {lists} {watch} {code} taps {q} is w h known p x at = ⊎_elim (λ k. inl k) (λ k. inr (spent_at taps p x at k)) (subst (λ (y : Table). IsWoken w p ⊎ IsSpent y p) (sym is) (h known p))

module _ {t : Program} {lists : Lists} {watch : Option ℕ} {code : Program} (xs ys : List Tapped) {q : Queues} (h : HaveChanged HasSpent xs ys)
    (laid : IsLaid (table_of t lists watch code xs q)) where
  abbrev old : Table
  old = table_of t lists watch code xs q

  abbrev new : Table
  new = table_of t lists watch code ys q

  pub emptied_laid : IsLaid new
  emptied_laid = record {
    wired = laid.wired;
    code = laid.code;
    count = length-map ys told_in ∙ h.count ∙ sym (length-map xs told_in) ∙ laid.count;
    each = λ p c at.
        let y = mapped_at told_in ys p c at in
        let x = old_item h p y.0 y.1 in
        let s = laid.each p x.0.told (get_map told_in xs p x.0 x.1) in
        let told : IsSeated new p y.0.told = subst (λ z. IsSeated new p z) (sym x.2.0)
        (record { network = s.network; input = s.input; instance = s.instance; watch = s.watch; at = record { reads = s.at.reads; writes = s.at.writes } }) in
        subst (IsSeated new p) (sym y.2) told;
    network = laid.network;
    input = laid.input;
  }

  emptied : HasEmptied old new
  emptied = record {
    rest = refl;
    views = map_map told_view told_in ys ∙ map_changed (λ x. told_view x.told) (λ x. told_view x.told) (λ x y e. ap told_view e.0) xs ys h ∙ sym (map_map told_view told_in xs);
    seen = map_map seen_of told_in ys ∙ map_changed (λ x. seen_of x.told) (λ x. seen_of x.told) (λ x y e. ap seen_of e.0) xs ys h ∙ sym (map_map seen_of told_in xs);
    spent = spent_of ys (λ p y at. (old_item h p y at).2.1);
  }

  pub emptied_then : {s : Table} → old ≡ s → HasEmptied s new
  emptied_then is = subst (λ (x : Table). HasEmptied x new) is emptied

-- ---- taps let go one after another

module _ (xs : List Tapped) (n : ℕ) (x y : Tapped) (here : n < length xs) (value : x ≡ slice_index_or xs n x) (h : HasForgotten x y) where
  pub one_stays : HaveChanged IsSameTap xs (slice_set xs n y)
  one_stays = record {
    count = length-set xs n y;
    each = λ p u v a b. set_each (λ k w. (z : Tapped) → slice_get xs k ≡ Some z → IsSameTap z w) xs n y
        (λ k w apart f z e. subst (IsSameTap z) (same_Some z w (sym e ∙ f)) refl)
        (λ z e. subst (λ t. IsSameTap t y) (same_Some x z (sym (slice_get_read xs (length xs) n x refl here value) ∙ e)) (ap (λ (t : Tapped). t.told) h)) p v b u a;
  }

  pub one_spent : (z : Tapped) → slice_get (slice_set xs n y) n ≡ Some z → IsSpentTap z
  one_spent z e = subst IsSpentTap (same_Some y z (sym (set_here xs n y here) ∙ e)) (subst IsSpentTap (sym h) (λ q. refl, refl))

pub others_stay : (xs : List Tapped) (n : ℕ) (y : Tapped) (p : ℕ) → (p ≡ n → ⊥) → slice_get (slice_set xs n y) p ≡ slice_get xs p
others_stay (x ∷ xs) zero y zero apart = absurd (apart refl)
others_stay (x ∷ xs) (suc n) y (suc p) apart = others_stay xs n y p (λ e. apart (ap suc e))
others_stay _ _ y _ apart = refl

pub none_changed : (xs : List Tapped) → HaveChanged IsSameTap xs xs
none_changed xs = record { count = refl; each = λ p x y a b. subst (IsSameTap x) (same_Some x y (sym a ∙ b)) refl }

pub stays_on : {xs ys zs : List Tapped} → HaveChanged IsSameTap xs ys → HaveChanged IsSameTap ys zs → HaveChanged IsSameTap xs zs
stays_on h k = record {
  count = k.count ∙ h.count;
  each = λ p x z a c.
      let y = old_item k p z c in
      y.2 ∙ ap (λ (t : CellView). record t { spare = z.told.spare; print_spare = z.told.print_spare }) (h.each p x y.0 a y.1);
}

pub fewer_left : (w w' : Woken) (r : ℕ) (xs ys : List Tapped) → AreSpentBut w xs → IsTakenFrom w (Some r) w' → ((z : Tapped) → slice_get ys r ≡ Some z → IsSpentTap z) →
    ((p : ℕ) → (p ≡ r → ⊥) → slice_get ys p ≡ slice_get xs p) → AreSpentBut w' ys
fewer_left w w' r xs ys h taken here others p x at = by (cases_eq p r)
  where
    or : (p ≡ r → ⊥) → (p ≡ r) ⊎ IsWoken w' p → IsWoken w' p ⊎ IsSpentTap x
    or n (inl e) = absurd (n e)
    or n (inr k) = inl k

    each : (p ≡ r → ⊥) → IsWoken w p ⊎ IsSpentTap x → IsWoken w' p ⊎ IsSpentTap x
    each n (inl k) = or n (taken.1 p k)
    each n (inr s) = inr s

    by : (p ≡ r) ⊎ (p ≡ r → ⊥) → IsWoken w' p ⊎ IsSpentTap x
    by (inl e) = inr (here x (ap (slice_get ys) (sym e) ∙ at))
    by (inr n) = each n (h p x (sym (others p n) ∙ at))

pub none_left : (w w' : Woken) (xs ys : List Tapped) → HaveChanged IsSameTap xs ys → AreSpentBut w ys → IsTakenFrom w None w' → HaveChanged HasSpent xs ys
none_left w w' xs ys h spent taken = record { count = h.count; each = λ p x y a b. (h.each p x y a b, by p y (spent p y b)) }
  where
    by : (p : ℕ) (y : Tapped) → IsWoken w p ⊎ IsSpentTap y → IsSpentTap y
    by p y (inl k) = absurd (taken.1 p k)
    by p y (inr s) = s

-- ---- how all stand

pub all_stand_by : {t : Program} {lists : Lists} {watch : Option ℕ} {code : Program} (taps : List Tapped) {q : Queues} → IsLaid (table_of t lists watch code taps q) →
    ((p : ℕ) (x : Tapped) → slice_get taps p ≡ Some x → StandsAsTold t x) → AllStandBy t watch (map told_in taps)
all_stand_by {t} {watch = watch} taps laid each p c at =
    let x = mapped_at told_in taps p c at in
    let s = laid.each p c at in
    let told = subst (λ (z : CellView). StoodBy (network_of t) (inputs_of z.input) z.watch z.instance (told_view z)) (sym x.2) (each p x.0 x.1) in
    subst (λ w. StoodBy (network_of t) (inputs_of c.input) w p (told_view c)) s.watch
    (subst (λ k. StoodBy (network_of t) (inputs_of c.input) c.watch k (told_view c)) s.instance told)

-- ---- what is there of what a tap kept

module _ {t : Program} {lists : Lists} {watch : Option ℕ} {code : Program} (taps : List Tapped) {q : Queues} {n : Table} (is : table_of t lists watch code taps q ≡ n)
    (laid : IsLaid (table_of t lists watch code taps q)) (p : ℕ) {x : Tapped} (here : p < length (network_of n.network).instances) (value : x ≡ slice_index_or taps p x) where
  abbrev b : Table
  b = table_of t lists watch code taps q

  at : slice_get taps p ≡ Some x
  at = tap_at taps is laid p here value

  cell : slice_get b.cells p ≡ Some x.told
  cell = found taps is laid p here value

  pub fresh_within : (k : ℕ) → k < length (instance_at (network_of n.network) p).actuals → k < length (instance_at (network_of x.told.network) x.told.instance).actuals
  fresh_within k l =
      let s = laid.each p x.told cell in
      let here : k < length (instance_at (network_of t) p).actuals = subst (λ (y : Table). k < length (instance_at (network_of y.network) p).actuals) (sym is) l in
      subst (λ i. k < length (instance_at (network_of x.told.network) i).actuals) (sym s.instance)
      (subst (λ u. k < length (instance_at (network_of u) p).actuals) (sym s.network) here)

  pub fresh_kept : (k : ℕ) (ts : List Token) → tokens x.told.kept k ≡ tokens x.gone.kept k ++ ts →
      tokens (seen_at (map seen_of n.cells) p).kept k ≡ tokens (slice_index_or n.gone p nothing_gone).kept k ++ ts
  fresh_kept k ts e =
      subst (λ (y : Table). tokens (seen_at (map seen_of y.cells) p).kept k ≡ tokens (slice_index_or y.gone p nothing_gone).kept k ++ ts) is
      (ap (λ (z : Seen). tokens z.kept k) (mapped seen_of b.cells p x.told unseen cell) ∙ e
      ∙ ap (λ (g : Gone). tokens g.kept k ++ ts) (sym (mapped gone_in taps p x nothing_gone at)))

  pub fresh_printed : (ts : List Token) → x.told.printed ≡ x.gone.printed ++ ts →
      (seen_at (map seen_of n.cells) p).printed ≡ (slice_index_or n.gone p nothing_gone).printed ++ ts
  fresh_printed ts e =
      subst (λ (y : Table). (seen_at (map seen_of y.cells) p).printed ≡ (slice_index_or y.gone p nothing_gone).printed ++ ts) is
      (ap (λ (z : Seen). z.printed) (mapped seen_of b.cells p x.told unseen cell) ∙ e
      ∙ ap (λ (g : Gone). g.printed ++ ts) (sym (mapped gone_in taps p x nothing_gone at)))

-- ---- what was given to an input channel

pub given_all : (b : Table) → IsLaid b → AreQueued b.queues → (c : ℕ) → role_at (network_of b.network) c ≡ Input →
    taken_of (slice_get b.queues.queues c) + waiting_of (slice_get b.queues.queues c) ≡ length (inputs_of b.input c)
given_all b laid counted c role = by (cases_lt c (length (network_of b.network).channels))
  where
    by : (c < length (network_of b.network).channels) ⊎ (length (network_of b.network).channels ≤ c) →
        taken_of (slice_get b.queues.queues c) + waiting_of (slice_get b.queues.queues c) ≡ length (inputs_of b.input c)
    by (inr past) = no_channel (network_of b.network) c past role
    by (inl here) =
        let w = got b.queues.queues c (omega (arith, counted.count ∙ ap (λ t. length (network_of t).channels) laid.network, here)) in
        let a = ap taken_of w.1 in
        let z = ap waiting_of w.1 in
        omega (arith, a, z, (counted.each c w.0 w.1).given (ap (λ t. role_at (network_of t) c) laid.network ∙ role) ∙ ap (λ (l : Lists). length (inputs_of l c)) laid.input)
