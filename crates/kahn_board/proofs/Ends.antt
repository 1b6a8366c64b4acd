-- What the rule says once all seats are one.
use Rattle.kahn_board.proofs.Common.{length-map, map, ◌≡◌, ◌≢◌, ℕ, zero, suc, ◌+◌, ◌*◌, ◌<◌, ◌⊎◌, inl, inr, ⊎_elim, List, [], ◌∷◌, length, get_or, sym, refl, ap, ◌∙◌, subst, arith, true, Option, Some, dite, ℕ_discrete, some, some-injective, some-ne-none, get_elem?, Summary, second_of, Wires, is_up, below, Whereabouts, ready, held, parked, over, total, St, Deal, spent, all_parts, published, budget, halt_word, IsHome, Whole, AllLeft, IsFree, SeatView, same_Some, IsCell, IsQuietCell, ClosesBoard}
use Rattle.kahn_board.specs.declared.turn.Closed.{Closed}
use Rattle.kahn_board.proofs.{Sums.terms_le, Sums.all_none, Keeps.one_at, Reseats.all_home}

-- a sum of one term, the others being 0
one_term : (f : SeatView → ℕ) (vs : List SeatView) (id : ℕ) (v : SeatView) → get_elem? vs id ≡ some v → ((j : ℕ) (u : SeatView) → j ≢ id → get_elem? vs j ≡ some u → f u ≡ 0) → total f vs ≡ f v
one_term f [] id v e h = absurd (some-ne-none v (sym e))
one_term f (x ∷ xs) zero v e h = let rest_zero : total f xs ≡ 0 = all_none f xs (λ j u k. h (suc j) u (λ z. omega arith) k) in omega (arith, rest_zero, ap f (some-injective x v e))
one_term f (x ∷ xs) (suc id) v e h = omega (arith, h 0 x (λ z. omega arith) refl, one_term f xs id v e (λ j u ne k. h (suc j) u (λ z. ne (omega arith)) k))

module _ {T : Type 0} (told : T → Option Summary) (belongs : ℕ → T → Type 0) (w : Wires) (d : Deal) where
  module _ (s : St T) (a : Whole told belongs w d s) (id : ℕ) (v : SeatView) (me : get_elem? s.views id ≡ some v) (all : v.parts ≡ all_parts) (free : IsFree v) where
    others_spent : (j : ℕ) (u : SeatView) → j ≢ id → get_elem? s.views j ≡ some u → u ≡ spent
    others_spent j u ne e = (a.ruled.seats j u e).spends (omega (arith, terms_le (λ (k : SeatView). k.parts) s.views id j v u ne me e, a.ruled.parts))

    sum_is : (f : SeatView → ℕ) → f spent ≡ 0 → total f s.views ≡ f v
    sum_is f z = one_term f s.views id v me (λ j u ne e. ap f (others_spent j u ne e) ∙ z)

    pub budget_left : budget w s.words + v.done ≡ d.bound
    budget_left = omega (arith, a.ruled.budgeted, sum_is (λ u. u.drawn) refl, sum_is (λ u. u.done) refl, free.1)

    pub events_left : d.events + v.done ≡ below a.tally w.instances + v.untold
    events_left = omega (arith, a.ruled.tallied, sum_is (λ u. u.done) refl, sum_is (λ u. u.untold) refl)

    pub all_left : v.stage ≡ 1 → AllLeft s
    all_left one = (
      (λ j u e. dite (ℕ_discrete j id)
          (λ is. omega (arith, one, ap (λ (k : SeatView). k.stage) (one_at s.views id j v u is me e)))
          (λ ne. omega (arith, ap (λ (k : SeatView). k.stage) (others_spent j u ne e)))),
      (id, v, me, one),
    )

    at_rest : (p : ℕ) (y : T) (x : Whereabouts) (r : Closed T) → ((q : ℕ) (z : T) → q < w.instances → IsCell told belongs w d r q z → IsHome s q z) → halt_word w s.words ≡ 0 → p < w.instances → IsHome s p y → a.place p ≡ x → is_up x ≡ 0 → IsQuietCell told belongs w d r p y
    at_rest p y ready r back not_halted inside home is z = absurd (omega arith)
    at_rest p y (held j) r back not_halted inside home is z = absurd (omega arith)
    at_rest p y (parked c) r back not_halted inside home is z = let t = (a.ruled.places p inside).reads c is in
        inr (
          c,
          published w s.words c,
          t.0,
          t.1,
          (a.ruled.cells p y inside home).waits c is,
          (
            (λ none_writes. (a.ruled.channels c t.0).fixed none_writes),
            (λ q l m u near writes there wrote.
                let o = a.ruled.cells q u near (back q u near there) in o.flushed_all not_halted c l m wrote ∙ (o.flushes c m (ap second_of wrote)).2),
          ),
        )
    at_rest p y over r back not_halted inside home is z = inl ((a.ruled.cells p y inside home).ends is)

    -- it is halted only where this seat did so
    pub halter_is : halt_word w s.words ≢ 0 → (v.seen ≡ 2) × (0 < v.raised)
    halter_is ne = let t = a.ruled.halter ne in dite (ℕ_discrete t.0 id)
        (λ is. let same = one_at s.views id t.0 v t.1 is me t.2 in (ap (λ (k : SeatView). k.seen) same ∙ t.3, omega (arith, ap (λ (k : SeatView). k.raised) same, t.4)))
        (λ apart. absurd (omega (arith, t.3, ap (λ (k : SeatView). k.seen) (others_spent t.0 t.1 apart t.2))))

    pub by_done : (r : Closed T) → ((q : ℕ) (z : T) → q < w.instances → IsCell told belongs w d r q z → IsHome s q z) → v.stage ≡ 1
        → (halt_word w s.words ≢ 0) ⊎ ((budget w s.words ≡ 0) ⊎ ((p : ℕ) (y : T) → p < w.instances → IsCell told belongs w d r p y → IsQuietCell told belongs w d r p y))
    by_done r back one = dite (ℕ_discrete (halt_word w s.words) 0)
        (λ not_halted. ⊎_elim (λ h. absurd (h not_halted)) (λ t. ⊎_elim
        (λ quiet_now. inr (inr (λ p y inside there. at_rest p y (a.place p) r back not_halted inside (back p y inside there) refl ((a.quiet quiet_now).0 p inside))))
        (λ h. inr (inl h.0)) t) (a.ruled.left (all_left one)))
        (λ ne. inl ne)

read_as : (l : List ℕ) (i a : ℕ) → get_elem? l i ≡ some a → get_or l i 0 ≡ a
read_as [] i a e = absurd (some-ne-none a (sym e))
read_as (x ∷ xs) zero a e = some-injective x a e
read_as (x ∷ xs) (suc i) a e = read_as xs i a e

-- what stands in the image of a list stands there
unmapped : {T : Type 0} (ys : List T) (p : ℕ) (y : T) → get_elem? (map Some ys) p ≡ some (Some y) → get_elem? ys p ≡ some y
unmapped [] p y e = absurd (some-ne-none (Some y) (sym e))
unmapped (x ∷ ys) zero y e = ap some (same_Some x y (some-injective (Some x) (Some y) e))
unmapped (x ∷ ys) (suc p) y e = unmapped ys p y e

module _ {T : Type 0} (told : T → Option Summary) (belongs : ℕ → T → Type 0) (w : Wires) (d : Deal) where
  pub closes : (s : St T) (a : Whole told belongs w d s) (id : ℕ) (v : SeatView) → get_elem? s.views id ≡ some v → v.parts ≡ all_parts → IsFree v → (ws : List ℕ) (xs : List (Option T)) (r : Closed T) → s.words ≡ ws → length s.homes ≡ length xs
      → ((k : ℕ) (y : Option T) → get_elem? s.homes k ≡ some (some y) → get_elem? xs k ≡ some y) → map Some r.cells.items ≡ xs → (i j h : ℕ) → i ≡ 8 * (w.instances + w.channels) → j ≡ 8 * (w.instances + w.channels) + 16 → get_elem? ws i ≡ some r.budget → get_elem? ws j ≡ some h
      → (h ≢ 0 → r.halted ≡ true) → (r.halted ≡ true → h ≢ 0) → ClosesBoard told belongs w d r v
  closes s a id v me all free ws xs r words long values same i j h at_i at_j reads_b reads_h flags flagged =
      let home = all_home told belongs w d s a id v me all free.0 in
      let there : (p : ℕ) (y : T) → IsHome s p y → IsCell told belongs w d r p y = λ p y e. unmapped r.cells.items p y (ap (λ (l : List (Option T)). get_elem? l p) same ∙ values p (Some y) e) in
      let back : (q : ℕ) (z : T) → q < w.instances → IsCell told belongs w d r q z → IsHome s q z = λ q z near e. (let t = home q near in subst (λ (u : T). IsHome s q u) (some-injective t.0 z (sym (there q t.0 t.1) ∙ e)) t.1) in
      let b_is : budget w s.words ≡ r.budget = ap (λ (k : ℕ). get_or s.words k 0) (sym at_i) ∙ (ap (λ (l : List ℕ). get_or l i 0) words ∙ read_as ws i r.budget reads_b) in
      let h_is : halt_word w s.words ≡ h = ap (λ (k : ℕ). get_or s.words k 0) (sym at_j) ∙ (ap (λ (l : List ℕ). get_or l j 0) words ∙ read_as ws j h reads_h) in record {
        each = (sym (length-map r.cells.items Some) ∙ (ap length same ∙ (sym long ∙ a.ruled.deep)), λ p near. (let t = home p near in (t.0, there p t.0 t.1)));
        belonging = λ p y near e. (a.ruled.cells p y near (back p y near e)).belonging;
        budget_is = omega (arith, budget_left told belongs w d s a id v me all free, b_is);
        events = (a.tally, (λ p y near e. (a.ruled.cells p y near (back p y near e)).tells), events_left told belongs w d s a id v me all free);
        halt_seen = ((λ two. flags (λ z. (a.ruled.seats id v me).saw_halted two (h_is ∙ z))), λ yes. (halter_is told belongs w d s a id v me all free (λ z. flagged yes (sym h_is ∙ z))).0);
        halt_raised = ((λ up. flags (λ z. (a.ruled.seats id v me).saw_halted ((a.ruled.seats id v me).sights.1 up) (h_is ∙ z))), λ yes. (halter_is told belongs w d s a id v me all free (λ z. flagged yes (sym h_is ∙ z))).1);
        by_done = λ one. ⊎_elim (λ ne. inl (flags (λ z. ne (h_is ∙ z)))) (λ t. ⊎_elim (λ z. inr (inl (sym b_is ∙ z))) (λ f. inr (inr f)) t) (by_done told belongs w d s a id v me all free r back one);
      }
