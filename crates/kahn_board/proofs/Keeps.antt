-- Each step keeps the rule.
use Rattle.kahn_board.proofs.Common.{◌≡◌, ℕ, ◌+◌, ◌*◌, ◌%◌, ◌<◌, ◌≤◌, ◌≢◌, ◌⊎◌, inl, inr, ⊎_elim, List, length, get_or, set, sym, ap, ◌∙◌, subst, arith, Option, Some, None, length-set, dite, ℕ_discrete, some, none, some-injective, some-ne-none, get_elem?, at_set, set_here, set_else, Summary, TellsWait, TellsEvents, Wires, is_up, below, Whereabouts, held, parked, word_code, held_by, mark_of, total, St, Deal, published, budget, up_count, halt_word, IsHome, HasSlot, PlaceIs, HomeIs, SeatIs, Ruled, Whole, IsHalter, WordWas, SeatView}
use Rattle.kahn_board.proofs.{Moved.is_held, Moved.held_apart, Sums.total-set, Sums.there, Sums.all_none, Quiet.whole}
use mathlib.Core.Option as maybe

pub here : {A : Type 0} (l : List A) (i : ℕ) (a b : A) → get_elem? l i ≡ some a → get_elem? (set l i b) i ≡ some b
here l i a b e = set_here l i b (there l i a e)

-- at one place there is one thing
pub one_at : {A : Type 0} (l : List A) (i j : ℕ) (a b : A) → j ≡ i → get_elem? l i ≡ some a → get_elem? l j ≡ some b → a ≡ b
one_at l i j a b is e f = some-injective a b (sym e ∙ (ap (λ (k : ℕ). get_elem? l k) (sym is) ∙ f))

-- what is true of p and of the others
pub at_one : (F : ℕ → Type 0) (q p : ℕ) → F p → (q ≢ p → F q) → F q
at_one F q p mine others = dite (ℕ_discrete q p) (λ e. subst F (sym e) mine) others

-- a seat that halted stays so
pub halter_set : (vs : List SeatView) (id : ℕ) (v v' : SeatView) → get_elem? vs id ≡ some v → (v.seen ≡ 2 → v'.seen ≡ 2) → v.raised ≤ v'.raised → IsHalter vs → IsHalter (set vs id v')
halter_set vs id v v' me knows raises h = dite (ℕ_discrete h.0 id)
    (λ is. let same = one_at vs id h.0 v h.1 is me h.2 in (id, v', here vs id v v' me, knows (ap (λ (k : SeatView). k.seen) same ∙ h.3), omega (arith, raises, ap (λ (k : SeatView). k.raised) same, h.4)))
    (λ ne. (h.0, h.1, set_else vs id h.0 v' ne ∙ h.2, h.3, h.4))

-- the same moment, in other words
pub was_at : {T : Type 0} (holds : St T → Type 0) (id id' : ℕ) (v v' : SeatView) (i i' r r' : ℕ) → id ≡ id' → v ≡ v' → i ≡ i' → r ≡ r' → WordWas holds id v i r → WordWas holds id' v' i' r'
was_at holds id id' v v' i i' r r' seat view word found w = subst (λ (k : ℕ × SeatView × ℕ × ℕ). WordWas holds k.0 k.1 k.2 k.3) (λ j. (seat j, view j, word j, found j)) w

module _ {T : Type 0} where
  -- the table once the seat id has the view v
  abbrev pub after : St T → ℕ → SeatView → List ℕ → List (maybe.Option (Option T)) → St T
  after s id v ws hs = record { words = ws; homes = hs; views = set s.views id v }

  -- the number published on c changes only where its writer is in the hands of the seat id, and no other instance than p is parked there
  abbrev pub Stays : Wires → (ℕ → Whereabouts) → St T → List ℕ → ℕ → ℕ → ℕ → Type 0
  Stays w place s ws id p c = (published w ws c ≡ published w s.words c)
      ⊎ ((w.writer c ≢ None) × ((q : ℕ) → q < w.instances → q ≢ p → (place q ≢ parked c) × (w.writer c ≡ Some q → place q ≡ held id)))

  not_home : (s : St T) (q j : ℕ) (y : T) (x : Whereabouts) → HasSlot x (get_elem? s.homes q) → x ≡ held j → IsHome s q y → ⊥
  not_home s q j y x stands is home = some-ne-none (Some y) (some-injective (some (Some y)) none (sym home ∙ subst (λ (k : Whereabouts). HasSlot k (get_elem? s.homes q)) is stands))

module _ {T : Type 0} (told : T → Option Summary) (belongs : ℕ → T → Type 0) (w : Wires) (d : Deal) (s : St T) (place place' : ℕ → Whereabouts) (tally tally' : ℕ → ℕ) (r : Ruled told belongs w d place tally s) (id p : ℕ) (v v' : SeatView) (ws : List ℕ) (hs : List (maybe.Option (Option T))) where
  abbrev pub now : St T
  now = after s id v' ws hs

  -- what a step of the seat id owes that moves the instance p alone, or none where there is no p
  pub record Step : Type 0 where
    pub mine : get_elem? s.views id ≡ some v
    pub wide : length ws ≡ length s.words
    pub deep : length hs ≡ length s.homes
    pub elsewhere : (q : ℕ) → q < w.instances → q ≢ p → (get_or ws (8 * q) 0 ≡ get_or s.words (8 * q) 0) × (place' q ≡ place q) × (tally' q ≡ tally q) × (get_elem? hs q ≡ get_elem? s.homes q)
    pub its : p < w.instances → PlaceIs w place' now p
    pub theirs : p < w.instances → (j : ℕ) → j ≢ id → (held_by j (place p) ≡ 0) × (held_by j (place' p) ≡ 0)
    pub cell : (y : T) → p < w.instances → IsHome now p y → HomeIs told belongs w place' tally' ws p y
    pub own : SeatIs w place' tally' ws id v'
    pub marks : (c : ℕ) → c < w.channels → get_or ws (8 * (w.instances + c)) 0 % 2 ≡ mark_of place' (w.reader c) c
    pub same : (c : ℕ) → c < w.channels → Stays w place s ws id p c
    pub parts : v'.parts ≡ v.parts
    pub drawing : budget w ws + v'.drawn + v'.done ≡ budget w s.words + v.drawn + v.done
    pub tallying : below tally' w.instances + v'.untold + v.done ≡ below tally w.instances + v.untold + v'.done
    pub counting : up_count w ws + length v'.owed + below (λ q. is_up (place q)) w.instances + v.down ≡ up_count w s.words + length v.owed + below (λ q. is_up (place' q)) w.instances + v'.down
    pub still_quiet : up_count w s.words ≡ 0 → up_count w ws ≡ 0
    pub still_halted : halt_word w s.words ≢ 0 → halt_word w ws ≢ 0
    pub knows : v.seen ≡ 2 → v'.seen ≡ 2
    pub raises : v.raised ≤ v'.raised
    pub halter : halt_word w ws ≢ 0 → (halt_word w s.words ≢ 0) ⊎ ((v'.seen ≡ 2) × (0 < v'.raised))
    pub leaves : v'.stage ≤ 1 → (halt_word w ws ≢ 0) ⊎ ((up_count w ws ≡ 0) ⊎ (budget w ws ≡ 0))

  module _ (m : Step) where
    places_kept : (q : ℕ) → q < w.instances → PlaceIs w place' now q
    places_kept q = at_one (λ k. k < w.instances → PlaceIs w place' now k) q p m.its (λ ne h. let t = m.elsewhere q h ne in let o = r.places q h in record {
      word_is = t.0 ∙ (o.word_is ∙ ap word_code (sym t.1));
      cell_is = subst (HasSlot (place' q)) (sym t.3) (subst (λ (x : Whereabouts). HasSlot x (get_elem? s.homes q)) (sym t.1) o.cell_is);
      seated = λ j is. omega (arith, length-set s.views id v', o.seated j (sym t.1 ∙ is));
      reads = λ c is. o.reads c (sym t.1 ∙ is);
    })

    cells_kept : (q : ℕ) (y : T) → q < w.instances → IsHome now q y → HomeIs told belongs w place' tally' ws q y
    cells_kept q y = at_one (λ k. k < w.instances → IsHome now k y → HomeIs told belongs w place' tally' ws k y) q p (m.cell y) (λ ne h home. let t = m.elsewhere q h ne in let home' : IsHome s q y = sym t.3 ∙ home in let o = r.cells q y h home' in record {
      waits = λ c is. let parks = sym t.1 ∙ is in ⊎_elim (λ e. subst (TellsWait (told y) c) (sym e) (o.waits c parks)) (λ f. absurd ((f.1 q h ne).0 parks)) (m.same c ((r.places q h).reads c parks).0);
      ends = λ is. o.ends (sym t.1 ∙ is);
      flushes = λ c k tells. let u = o.flushes c k tells in (u.0, u.1, ⊎_elim (λ e. u.2 ∙ sym e) (λ f. absurd (not_home s q id y (place q) (r.places q h).cell_is ((f.1 q h ne).1 u.1) home')) (m.same c u.0));
      flushed_all = λ z. o.flushed_all (dite (ℕ_discrete (halt_word w s.words) 0) (λ e. e) (λ on. absurd (m.still_halted on z)));
      tells = subst (TellsEvents (told y)) (sym t.2) o.tells;
      belonging = o.belonging;
    })

    seats_kept : (j : ℕ) (u : SeatView) → get_elem? now.views j ≡ some u → SeatIs w place' tally' ws j u
    seats_kept j u e = ⊎_elim (λ (t : (j ≡ id) × (v' ≡ u)). subst (λ (k : ℕ × SeatView). SeatIs w place' tally' ws k.0 k.1) (λ i. (sym t.0 i, t.1 i)) m.own)
        (λ (t : (j ≢ id) × (get_elem? s.views j ≡ some u)). let o = r.seats j u t.1 in
        let else_where : (q : ℕ) → q < w.instances → get_or u.hands q 0 ≡ 1 → q ≢ p = λ q h one is. absurd (omega (arith, one, o.hands q h, ap (λ (k : ℕ). held_by j (place k)) is, (m.theirs (omega (arith, is, h)) j t.0).0)) in record {
          hands = λ q. at_one (λ k. k < w.instances → get_or u.hands k 0 ≡ held_by j (place' k)) q p (λ h. o.hands p h ∙ ((m.theirs h j t.0).0 ∙ sym (m.theirs h j t.0).1)) (λ ne h. o.hands q h ∙ ap (held_by j) (sym (m.elsewhere q h ne).1));
          inside = o.inside;
          known = λ q c h one near writes. ⊎_elim (λ e. o.known q c h one near writes ∙ sym e)
              (λ f. absurd (t.0 (held_apart j id (sym (is_held j (place q) (sym (o.hands q h) ∙ one)) ∙ (f.1 q h (else_where q h one)).1 writes)))) (m.same c near);
          events_when_got = λ q h one. o.events_when_got q h one ∙ sym (m.elsewhere q h (else_where q h one)).2;
          pairs = o.pairs;
          few = o.few;
          saw_quiet = λ k. m.still_quiet (o.saw_quiet k);
          saw_halted = λ k. m.still_halted (o.saw_halted k);
          sights = o.sights;
          idle = o.idle;
          spends = o.spends;
        }) (at_set s.views id j v' u e)

    sums : (f : SeatView → ℕ) → total f (set s.views id v') + f v ≡ total f s.views + f v'
    sums f = total-set f s.views id v v' m.mine

    pub kept : Whole told belongs w d now
    kept = whole told belongs w d place' tally' now record {
      wide = m.wide ∙ r.wide;
      deep = m.deep ∙ r.deep;
      places = places_kept;
      channels = λ c h. record { mark = m.marks c h; fixed = λ none. ⊎_elim (λ e. e ∙ (r.channels c h).fixed none) (λ f. absurd (f.0 none)) (m.same c h) };
      cells = cells_kept;
      seats = seats_kept;
      parts = omega (arith, r.parts, m.parts, sums (λ u. u.parts));
      small = r.small;
      budgeted = omega (arith, r.budgeted, m.drawing, sums (λ u. u.drawn), sums (λ u. u.done));
      tallied = omega (arith, r.tallied, m.tallying, sums (λ u. u.untold), sums (λ u. u.done));
      counted = omega (arith, r.counted, m.counting, sums (λ u. length u.owed), sums (λ u. u.down));
      halter = λ ne. ⊎_elim (λ was. halter_set s.views id v v' m.mine m.knows m.raises (r.halter was)) (λ two. (id, v', here s.views id v v' m.mine, two.0, two.1)) (m.halter ne);
      left = λ a. ⊎_elim (λ h. inl h) (λ t. ⊎_elim (λ h. inr (inl h)) (λ h. inr (inr (h, all_none (λ u. u.drawn) now.views (λ j u e. (seats_kept j u e).idle (a.0 j u e))))) t) (m.leaves (a.0 id v' (here s.views id v v' m.mine)));
    }
