-- What a call owes at each step on a word.
use Rattle.kahn_board.proofs.Common.{◌≡◌, ℕ, ◌+◌, ◌*◌, ◌/◌, ◌%◌, ◌^◌, ◌<◌, ◌≢◌, ◌⊎◌, inl, inr, List, [], ◌∷◌, ◌++◌, length, get_or, set, sym, refl, ap, ◌∙◌, subst, arith, Option, Some, None, length-set, get_or-set_same, get_or-set_other, eqb, dite, ℕ_discrete, some, none, get_elem?, set-get_or, either, none-some, same_Some, step, Act, keeps, takes, gives, Valid, carried_after, stepped, Allows, exchanged, Summary, TellsWait, TellsEnd, FlushedAll, Wires, is_up, Leaves, Whereabouts, ready, held, parked, over, word_code, held_by, parked_on, mark_of, Sat, SeesMore, IsIn, Got, after_step, after_taking, after_giving_up, with_published, after_waking, claimed, set_down, parked_or_not, publishes, St, Deal, Whole, IsHome, HasSlot, published, halt_word, SeatView}
use Rattle.kahn_board.proofs.Moved.{moved, at_moved, moved_here, is_held, only_yes, only_no, is_parked, parked_apart, code_ready}
use Rattle.kahn_board.proofs.{Sums.term_le, Counting.below-term, Changes.owes_more, Changes.owes_woken, Changes.one_longer, Keeps.Stays, Keeps.at_one, Keeps.kept}
use Rattle.kahn_board.proofs.Seconds.{Fit, half, halves, half_at, halves_long, hot, idles, still, take_step, give_step}
use mathlib.Core.Option as maybe

mark_same : (place : ℕ → Whereabouts) (p : ℕ) (x : Whereabouts) (reader : Option ℕ) (c : ℕ) → parked_on c x ≡ parked_on c (place p) → mark_of (moved place p x) reader c ≡ mark_of place reader c
mark_same place p x None c e = refl
mark_same place p x (Some q) c e = at_moved (λ k z. parked_on c z ≡ parked_on c (place k)) place p x q e (λ ne. refl)

marked : (place : ℕ → Whereabouts) (reader : Option ℕ) (c : ℕ) → mark_of place reader c ≡ 1 → (p : ℕ) × (reader ≡ Some p) × (place p ≡ parked c)
marked place None c e = absurd (omega arith)
marked place (Some p) c e = (p, refl, is_parked c (place p) e)

module _ {T : Type 0} (told : T → Option Summary) (belongs : ℕ → T → Type 0) (w : Wires) (d : Deal) where
  abbrev pub Goes : (St T) → ℕ → ℕ → Sat T → (ℕ → Sat T → Type 0) → ℕ → Type 0
  Goes s i id m then k = (v : SeatView) × (a : Act (Option T)) × Valid s.homes m.1 a × Whole told belongs w d (stepped s i k id m.1 v a) × then (get_or s.words i 0) (v, carried_after m.1 a)

  -- a step that changes nothing
  pub unchanged : (s : St T) (a : Whole told belongs w d s) (i id : ℕ) (m : Sat T) → get_elem? s.views id ≡ some m.0 → Fit w m → Whole told belongs w d (stepped s i (get_or s.words i 0) id m.1 (after_step m.0) keeps)
  unchanged s a i id m me fit = subst (λ (l : List ℕ). Whole told belongs w d record { words = l; homes = s.homes; views = set s.views id (after_step m.0) }) (sym (set-get_or s.words i 0)) (idles told belongs w d s a.place a.tally a.ruled id m (after_step m.0) s.words me fit
      (still told belongs w d s a.place a.tally a.ruled id m.0 m.0.drawn m.0.done m.0.untold m.0.owed m.0.down s.words me refl (λ q h. refl) refl refl refl (a.ruled.seats id m.0 me).pairs (omega arith) (λ e. e) refl))

  pub mine_is : (s : St T) (a : Whole told belongs w d s) (id : ℕ) (v : SeatView) (p : ℕ) → get_elem? s.views id ≡ some v → p < w.instances → IsIn v p → a.place p ≡ held id
  mine_is s a id v p me inside is_in = is_held id (a.place p) (sym ((a.ruled.seats id v me).hands p inside) ∙ is_in)

  -- what a seat sees of the run as it takes a cell: whether it is halted
  sees : (s : St T) (a : Whole told belongs w d s) (id : ℕ) (v : SeatView) (p : ℕ) (y : T) → get_elem? s.views id ≡ some v → p < w.instances → IsHome s p y
      → (seen : ℕ) × SeesMore v.seen seen × (seen ≡ 2 → halt_word w s.words ≢ 0) × ((seen ≡ 2) ⊎ FlushedAll (told y))
  sees s a id v p y me inside home = dite (ℕ_discrete (halt_word w s.words) 0)
      (λ zero_now. (v.seen, inl refl, (a.ruled.seats id v me).saw_halted, inr ((a.ruled.cells p y inside home).flushed_all zero_now)))
      (λ ne. (2, inr refl, (λ _. ne), inl refl))

  -- what is known of the cell of p that a seat takes up by a step on the word i, where it knows of the channels' numbers as m
  got_home : (s : St T) (a : Whole told belongs w d s) (i k id : ℕ) (v : SeatView) (m : Sat T) (p : ℕ) (y : T) (see : (seen : ℕ) × SeesMore v.seen seen × (seen ≡ 2 → halt_word w s.words ≢ 0) × ((seen ≡ 2) ⊎ FlushedAll (told y))) → get_elem? s.views id ≡ some v → p < w.instances → IsHome s p y → get_or m.0.hands p 0 ≡ 0
      → m.0.events_when_got ≡ v.events_when_got → m.0.drawn ≡ v.drawn → m.0.seen ≡ v.seen → length m.0.flushed ≡ w.channels → length v.events_when_got ≡ w.instances → ((q c : ℕ) → q < w.instances → c < w.channels → IsIn m.0 q → w.writer c ≡ Some q → published w (set s.words i k) c ≡ get_or m.0.flushed c 0)
      → ((c : ℕ) → w.writer c ≡ Some p → published w (set s.words i k) c ≡ published w s.words c)
      → Got told belongs w m p (after_taking m.0 p (halves w (set s.words i k)) (a.tally p) see.0, (p, Some y) ∷ m.1) y
  got_home s a i k id v m p y see me inside home free got drawn seen long got_long agrees same = let ws = set s.words i k in let o = a.ruled.cells p y inside home in let b = a.ruled in (
    halves w ws,
    a.tally p,
    see.0,
    refl,
    free,
    halves_long w ws ∙ sym long,
    (λ q c h near one writes. half_at w ws c near ∙ agrees q c h near one writes),
    (λ c l tells. let t = o.flushes c l tells in (t.1, t.0, t.2 ∙ (sym (same c t.1) ∙ sym (half_at w ws c t.0)))),
    o.tells,
    subst (λ (n : ℕ). SeesMore n see.0) (sym seen) see.1,
    see.3,
    o.belonging,
    omega (arith, b.small, b.budgeted, b.tallied, below-term a.tally w.instances p inside, term_le (λ (u : SeatView). u.drawn) s.views id v me, drawn, ap (λ (l : List ℕ). get_or (set l p (a.tally p)) p 0) got, get_or-set_same v.events_when_got p (a.tally p) 0 (omega (arith, got_long))),
  )

  -- a step on the word of the instance p leaves those of the others and of channels
  word_else : (s : St T) (p k q : ℕ) → q < w.instances → q ≢ p → get_or (set s.words (8 * p) k) (8 * q) 0 ≡ get_or s.words (8 * q) 0
  word_else s p k q h ne = get_or-set_other s.words (8 * p) (8 * q) k 0 (λ e. ne (omega arith))

  channel_else : (s : St T) (p k c : ℕ) → p < w.instances → get_or (set s.words (8 * p) k) (8 * (w.instances + c)) 0 ≡ get_or s.words (8 * (w.instances + c)) 0
  channel_else s p k c h = get_or-set_other s.words (8 * p) (8 * (w.instances + c)) k 0 (λ e. omega arith)

  claims : (n id : ℕ) (m : Sat T) (p : ℕ) (said : maybe.Option (Option T)) → Fit w m → p < w.instances → Allows (Whole told belongs w d) n id m (8 * p) (λ y. either (eqb y 0) 1 y) (claimed told belongs w p (step n (8 * p) 0 1 said) m)
  claims n id m p said fit inside s a wide me _ = let then = claimed told belongs w p (step n (8 * p) 0 1 said) m in let place = a.place in let r = a.ruled in let o = r.seats id m.0 me in let its = r.places p inside in let long = r.wide in
      exchanged (get_or s.words (8 * p) 0) 0 1 (Goes s (8 * p) id m then)
      (λ hit. let is : place p ≡ ready = code_ready (place p) (sym its.word_is ∙ hit) in
      let cell = subst (λ (z : Whereabouts). HasSlot z (get_elem? s.homes p)) is its.cell_is in let y : T = cell.0 in let saw_it = sees s a id m.0 p y me inside cell.1 in
      let free : get_or m.0.hands p 0 ≡ 0 = o.hands p inside ∙ ap (held_by id) is in
      let pub_same : (c : ℕ) → published w (set s.words (8 * p) 1) c ≡ published w s.words c = λ c. ap half (channel_else s p 1 c inside) in (
        after_taking m.0 p (halves w (set s.words (8 * p) 1)) (a.tally p) saw_it.0,
        takes p (Some y),
        cell.1,
        take_step told belongs w d s place a.tally r (8 * p) 1 id m p y m.0.owed saw_it.0 me fit inside cell.1 (omega arith) (λ j. ap (held_by j) is) (get_or-set_same s.words (8 * p) 1 0 (omega arith)) (word_else s p 1)
            (λ c near. ap (λ (k : ℕ). k % 2) (channel_else s p 1 c inside) ∙ ((r.channels c near).mark ∙ sym (mark_same place p (held id) (w.reader c) c (sym (ap (parked_on c) is)))))
            (λ c near. inl (pub_same c)) (omega (arith, ap is_up is)) (owes_more m.0.hands p m.0.owed free o.pairs) saw_it.1 saw_it.2,
        (
          (λ _. (y, got_home s a (8 * p) 1 id m.0 m p y saw_it me inside cell.1 free refl refl refl fit.flushed_long fit.got_long (λ q c h near one writes. pub_same c ∙ sym (o.known q c h one near writes)) (λ c _. pub_same c))),
          (λ miss. absurd (miss hit)),
        ),
      ))
      (λ miss. (after_step m.0, keeps, tt, unchanged s a (8 * p) id m me fit, ((λ hit. absurd (miss hit)), λ _. refl)))

  -- the instance read off the word
  pub claims_at : (n id : ℕ) (m : Sat T) (p p' : ℕ) (said : maybe.Option (Option T)) → Fit w m → p < w.instances → p' ≡ p → Allows (Whole told belongs w d) n id m (8 * p) (λ y. either (eqb y 0) 1 y) (claimed told belongs w p' (step n (8 * p) 0 1 said) m)
  claims_at n id m p p' said fit inside same = subst (λ (k : ℕ). Allows (Whole told belongs w d) n id m (8 * p) (λ y. either (eqb y 0) 1 y) (claimed told belongs w k (step n (8 * p) 0 1 said) m)) (sym same) (claims n id m p said fit inside)

  pub sets_down : (n id : ℕ) (v : SeatView) (more : List (ℕ × Option T)) (p : ℕ) (y : T) (x : Whereabouts) (new : ℕ) → Fit w (v, (p, Some y) ∷ more) → p < w.instances → IsIn v p
      → new ≡ word_code x → ((j : ℕ) → held_by j x ≡ 0) → ((c : ℕ) → parked_on c x ≡ 0) → HasSlot x (some (some (Some y))) → (x ≡ over → TellsEnd (told y)) → is_up x + new / 2 ≡ 1 → Leaves told belongs w v p y → v.down < 2 ^ 32
      → Allows (Whole told belongs w d) n id (v, (p, Some y) ∷ more) (8 * p) (λ _. new) (λ _. set_down told w p (step n (8 * p) new 0 none) (v, (p, Some y) ∷ more) new)
  sets_down n id v more p y x new fit inside is_in codes free unparked stands ends ups leaves few s a wide me _ = let long = a.ruled.wide in let is = mine_is s a id v p me inside is_in in (
    after_giving_up v p (told y) (new / 2),
    gives,
    tt,
    give_step told belongs w d s a.place a.tally a.ruled (8 * p) new id v more p y x (new / 2) me fit inside is_in (omega arith) is free (get_or-set_same s.words (8 * p) new 0 (omega arith) ∙ codes) (word_else s p new)
        (λ c near. ap (λ (k : ℕ). k % 2) (channel_else s p new c inside) ∙ ((a.ruled.channels c near).mark ∙ sym (mark_same a.place p x (w.reader c) c (unparked c ∙ sym (ap (parked_on c) is)))))
        (λ c near. ap half (channel_else s p new c inside)) stands (λ c e. absurd (omega (arith, unparked c, ap (parked_on c) e, only_yes c))) ends ups leaves few,
    (y, refl, refl),
  )

  pub parks : (n id : ℕ) (v : SeatView) (more : List (ℕ × Option T)) (p : ℕ) (y : T) (c i taken : ℕ) (old new : ℕ) (said : maybe.Option (Option T)) → Fit w (v, (p, Some y) ∷ more) → p < w.instances → IsIn v p
      → i ≡ 8 * (w.instances + c) → c < w.channels → w.reader c ≡ Some p → old ≡ 2 * taken → new ≡ 2 * taken + 1 → TellsWait (told y) c taken → Leaves told belongs w v p y → v.down < 2 ^ 32
      → Allows (Whole told belongs w d) n id (v, (p, Some y) ∷ more) i (λ z. either (eqb z old) new z) (parked_or_not told w p (step n i old new said) (v, (p, Some y) ∷ more))
  parks n id v more p y c i taken old new said fit inside is_in at near reads olds news waits leaves few s a wide me _ = let place = a.place in let r = a.ruled in let is = mine_is s a id v p me inside is_in in let long = r.wide in
      let m : Sat T = (v, (p, Some y) ∷ more) in let then = parked_or_not told w p (step n i old new said) m in let x : ℕ = get_or s.words i 0 in
      exchanged x old new (Goes s i id m then)
      (λ hit. let ws = set s.words i new in
      let else_where : (k : ℕ) → k ≢ i → get_or ws k 0 ≡ get_or s.words k 0 = λ k ne. get_or-set_other s.words i k new 0 ne in
      let now : get_or ws (8 * (w.instances + c)) 0 ≡ new = ap (λ (k : ℕ). get_or ws k 0) (sym at) ∙ get_or-set_same s.words i new 0 (omega arith) in
      let was : get_or s.words (8 * (w.instances + c)) 0 ≡ old = ap (λ (k : ℕ). get_or s.words k 0) (sym at) ∙ hit in
      let num : published w ws c ≡ taken = omega (arith, now) in let num' : published w s.words c ≡ taken = omega (arith, was) in
      let same : (e : ℕ) → e < w.channels → published w ws e ≡ published w s.words e = λ e _. at_one (λ k. published w ws k ≡ published w s.words k) e c (num ∙ sym num') (λ ne. ap half (else_where (8 * (w.instances + e)) (λ e. ne (omega arith)))) in (
        after_giving_up v p (told y) 1,
        gives,
        tt,
        give_step told belongs w d s place a.tally r i new id v more p y (parked c) 1 me fit inside is_in (omega arith) is (λ j. refl) (else_where (8 * p) (λ e. omega arith) ∙ ((r.places p inside).word_is ∙ ap word_code is)) (λ q h ne. else_where (8 * q) (λ e. omega arith))
            (λ e near_e. at_one (λ k. get_or ws (8 * (w.instances + k)) 0 % 2 ≡ mark_of (moved place p (parked c)) (w.reader k) k) e c
            (let odd : get_or ws (8 * (w.instances + c)) 0 % 2 ≡ 1 = omega (arith, now) in odd ∙ sym (ap (λ (o : Option ℕ). mark_of (moved place p (parked c)) o c) reads ∙ (ap (parked_on c) (moved_here place p (parked c)) ∙ only_yes c)))
            (λ ne. ap (λ (k : ℕ). k % 2) (else_where (8 * (w.instances + e)) (λ e. ne (omega arith))) ∙ ((r.channels e near_e).mark ∙ sym (mark_same place p (parked c) (w.reader e) e (only_no e c (λ f. ne (sym f)) ∙ sym (ap (parked_on e) is))))))
            same (y, refl) (λ e f. subst (λ (k : ℕ). (k < w.channels) × (w.reader k ≡ Some p) × TellsWait (told y) k (published w ws k)) (parked_apart c e f) (near, reads, subst (TellsWait (told y) c) (sym num) waits))
            (λ e. absurd (omega (arith, ap word_code e))) refl leaves few,
        ((λ _. (y, refl, refl)), λ miss. absurd (miss hit)),
      ))
      (λ miss. let even : x % 2 ≡ 0 = ap (λ (k : ℕ). get_or s.words k 0 % 2) at ∙ ((r.channels c near).mark ∙ (ap (λ (o : Option ℕ). mark_of place o c) reads ∙ ap (parked_on c) is)) in
      (after_step v, keeps, tt, unchanged s a i id m me fit, ((λ hit. absurd (miss hit)), λ _. (even, refl))))

  pub publishing : (n id : ℕ) (m : Sat T) (c i q₀ count new : ℕ) → Fit w m → i ≡ 8 * (w.instances + c) → c < w.channels → w.writer c ≡ Some q₀ → q₀ < w.instances → IsIn m.0 q₀
      → ((p : ℕ) → w.reader c ≡ Some p → p < w.instances) → new ≡ 2 * count → Allows (Whole told belongs w d) n id m i (λ _. new) (publishes told belongs w c (step n i new 0 none) m)
  publishing n id m c i q₀ count new fit at near writes writer_in is_in reader_in news s a wide me _ = let place = a.place in let r = a.ruled in let o = r.seats id m.0 me in
      let x : ℕ = get_or s.words i 0 in let ws = set s.words i new in let long = r.wide in let is = mine_is s a id m.0 q₀ me writer_in is_in in
      let else_where : (k : ℕ) → k ≢ i → get_or ws k 0 ≡ get_or s.words k 0 = λ k ne. get_or-set_other s.words i k new 0 ne in
      let words_are : (q : ℕ) → q < w.instances → get_or ws (8 * q) 0 ≡ get_or s.words (8 * q) 0 = λ q h. else_where (8 * q) (λ e. omega arith) in
      let now : get_or ws (8 * (w.instances + c)) 0 ≡ new = ap (λ (k : ℕ). get_or ws k 0) (sym at) ∙ get_or-set_same s.words i new 0 (omega arith) in
      let x_is : get_or s.words (8 * (w.instances + c)) 0 ≡ x = ap (λ (k : ℕ). get_or s.words k 0) (sym at) in
      let the_writer : (q : ℕ) → w.writer c ≡ Some q → place q ≡ held id = λ q e. ap place (sym (same_Some q₀ q (sym writes ∙ e))) ∙ is in
      let elsewhere_same : (e : ℕ) → e ≢ c → published w ws e ≡ published w s.words e = λ e ne. ap half (else_where (8 * (w.instances + e)) (λ e. ne (omega arith))) in
      -- the others that are parked on c, and its writer
      let stays : (p : ℕ) → ((q : ℕ) → q < w.instances → q ≢ p → place q ≢ parked c) → (e : ℕ) → e < w.channels → Stays w place s ws id p e = λ p unparked e _. at_one (λ k. Stays w place s ws id p k) e c
      (inr ((λ none. none-some q₀ (sym none ∙ writes)), λ q h ne. (unparked q h ne, the_writer q))) (λ ne. inl (elsewhere_same e ne)) in
      let marks : (place' : ℕ → Whereabouts) → new % 2 ≡ mark_of place' (w.reader c) c → ((e : ℕ) → e ≢ c → mark_of place' (w.reader e) e ≡ mark_of place (w.reader e) e) → (e : ℕ) → e < w.channels → get_or ws (8 * (w.instances + e)) 0 % 2 ≡ mark_of place' (w.reader e) e =
      λ place' mine others e near_e. at_one (λ k. get_or ws (8 * (w.instances + k)) 0 % 2 ≡ mark_of place' (w.reader k) k) e c (ap (λ (k : ℕ). k % 2) now ∙ mine)
      (λ ne. ap (λ (k : ℕ). k % 2) (else_where (8 * (w.instances + e)) (λ e. ne (omega arith))) ∙ ((r.channels e near_e).mark ∙ sym (others e ne))) in
      let now_known : (q e : ℕ) → q < w.instances → e < w.channels → IsIn m.0 q → w.writer e ≡ Some q → get_or (set m.0.flushed c (new / 2)) e 0 ≡ published w ws e = λ q e h near_e one. at_one (λ k. w.writer k ≡ Some q → get_or (set m.0.flushed c (new / 2)) k 0 ≡ published w ws k) e c
      (λ _. get_or-set_same m.0.flushed c (new / 2) 0 (omega (arith, fit.flushed_long)) ∙ ap half (sym now))
      (λ ne wr. get_or-set_other m.0.flushed c e (new / 2) 0 ne ∙ (o.known q e h one near_e wr ∙ sym (elsewhere_same e ne))) in
      dite (ℕ_discrete (x % 2) 0)
      (λ even. let v' : SeatView = after_step (with_published m.0 c (new / 2)) in let hots = hot w s.words i new (omega arith) in (
        v',
        keeps,
        tt,
        kept told belongs w d s place place a.tally a.tally r id w.instances m.0 v' ws s.homes record {
          mine = me;
          wide = length-set s.words i new;
          deep = refl;
          elsewhere = λ q h ne. (words_are q h, refl, refl, refl);
          its = λ h. absurd (omega arith);
          theirs = λ h. absurd (omega arith);
          cell = λ y h. absurd (omega arith);
          own = record {
            hands = o.hands;
            inside = o.inside;
            known = λ q e h one near_e wr. now_known q e h near_e one wr;
            events_when_got = o.events_when_got;
            pairs = o.pairs;
            few = o.few;
            saw_quiet = λ e. hots.count_same ∙ o.saw_quiet e;
            saw_halted = λ e z. o.saw_halted e (sym hots.halted_same ∙ z);
            sights = o.sights;
            idle = λ h. absurd (omega arith);
            spends = λ none_left. absurd (omega (arith, none_left, fit.alive));
          };
          marks = marks place (let zero_now : new % 2 ≡ get_or s.words (8 * (w.instances + c)) 0 % 2 = omega (arith, x_is) in zero_now ∙ (r.channels c near).mark) (λ e ne. refl);
          same = stays w.instances (λ q h ne on_c. absurd (omega (arith, x_is, (r.channels c near).mark, ap (λ (o : Option ℕ). mark_of place o c) ((r.places q h).reads c on_c).1, ap (parked_on c) on_c, only_yes c)));
          parts = refl;
          drawing = omega (arith, hots.budget_same);
          tallying = refl;
          counting = omega (arith, hots.count_same);
          still_quiet = λ e. hots.count_same ∙ e;
          still_halted = λ ne e. ne (sym hots.halted_same ∙ e);
          knows = λ e. e;
          raises = omega arith;
          halter = λ ne. inl (λ z. ne (hots.halted_same ∙ z));
          leaves = λ h. absurd (omega arith);
        },
        ((λ _. refl), λ odd. absurd (omega arith)),
      ))
      (λ not_even. let odd : x % 2 ≡ 1 = omega arith in let t = marked place (w.reader c) c (sym (r.channels c near).mark ∙ (ap (λ (k : ℕ). k % 2) x_is ∙ odd)) in
      let p : ℕ = t.0 in let on_c : place p ≡ parked c = t.2 in let inside : p < w.instances = reader_in p t.1 in
      let cell = subst (λ (z : Whereabouts). HasSlot z (get_elem? s.homes p)) on_c (r.places p inside).cell_is in let y : T = cell.0 in let saw_it = sees s a id m.0 p y me inside cell.1 in
      let free : get_or m.0.hands p 0 ≡ 0 = o.hands p inside ∙ ap (held_by id) on_c in (
        after_taking (after_waking m.0 c (new / 2) p q₀) p (halves w ws) (a.tally p) saw_it.0,
        takes p (Some y),
        cell.1,
        take_step told belongs w d s place a.tally r i new id m p y (m.0.owed ++ (p, q₀) ∷ []) saw_it.0 me fit inside cell.1 (omega arith) (λ j. ap (held_by j) on_c) (words_are p inside ∙ ((r.places p inside).word_is ∙ ap word_code on_c)) (λ q h _. words_are q h)
            (marks (moved place p (held id)) (let zero_now : new % 2 ≡ 0 = omega arith in zero_now ∙ sym (ap (λ (o : Option ℕ). mark_of (moved place p (held id)) o c) t.1 ∙ ap (parked_on c) (moved_here place p (held id))))
            (λ e ne. mark_same place p (held id) (w.reader e) e (sym (ap (parked_on e) on_c ∙ only_no e c (λ f. ne (sym f))))))
            (stays p (λ q h ne there. ne (same_Some q p (sym ((r.places q h).reads c there).1 ∙ t.1))))
            (omega (arith, ap is_up on_c, one_longer m.0.owed (p, q₀))) (owes_woken m.0.hands p q₀ m.0.owed free (get_or-set_same m.0.hands p 1 0 (omega (arith, fit.hands_long))) is_in o.pairs) saw_it.1 saw_it.2,
        (
          (λ even. absurd (not_even even)),
          (λ _. (
            p,
            q₀,
            y,
            t.1,
            writes,
            subst (TellsWait (told y) c) (ap half x_is) ((r.cells p y inside cell.1).waits c on_c),
            got_home s a i new id m.0 (after_waking m.0 c (new / 2) p q₀, m.1) p y saw_it me inside cell.1 free refl refl refl (length-set m.0.flushed c (new / 2) ∙ fit.flushed_long) fit.got_long (λ q e h near_e one wr. sym (now_known q e h near_e one wr))
                (λ e wr. elsewhere_same e (λ f. omega (arith, ap (parked_on c) (sym on_c ∙ the_writer p (ap w.writer (sym f) ∙ wr)), only_yes c))),
          )),
        ),
      ))
