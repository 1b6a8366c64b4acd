-- The steps on the words budget, count and halted.
use Rattle.kahn_board.proofs.Common.{◌≡◌, ℕ, ◌+◌, ◌-◌, ◌*◌, ◌%◌, ◌^◌, ◌<◌, ◌≤◌, ◌≢◌, ◌⊎◌, inl, inr, eqb, List, drop, length, get_or, set, sym, refl, ap, ◌∙◌, subst, arith, Option, length-set, get_or-set_same, get_or-set_other, dite, ℕ_discrete, some, none, get_elem?, set-get_or, either, step, keeps, stepped, Allows, exchanged, Summary, Wires, Owed, Owes, is_up, Whereabouts, ready, held, parked, over, St, Deal, Whole, budget, up_count, halt_word, Sat, after_step, after_looking, after_reporting, after_giving_back, after_counting_up, after_counting_down, after_halting, drew, sees_halted, sees_count, sees_budget, SeatView, becomes}
use Rattle.kahn_board.proofs.{Sums.term_le, Counting.below-le, Counting.below-term, Quiet.owed_less, Quiet.downs_few, Seconds.Fit, Seconds.Idle, Seconds.idles, Seconds.still, Changes.one_less, Changes.owes_paid, Changes.leaves_free, Steps.Goes, Steps.unchanged}

up_small : (x : Whereabouts) → is_up x ≤ 1
up_small ready = omega arith
up_small (held j) = omega arith
up_small (parked c) = omega arith
up_small over = omega arith

module _ {T : Type 0} (told : T → Option Summary) (belongs : ℕ → T → Type 0) (w : Wires) (d : Deal) where
  -- a step on such a word
  at_hot : (s : St T) (a : Whole told belongs w d s) (i k id : ℕ) (m : Sat T) (v : SeatView) → get_elem? s.views id ≡ some m.0 → Fit w m → Idle told belongs w d s a.place a.tally a.ruled m.0 v (set s.words i k) → Whole told belongs w d (stepped s i k id m.1 v keeps)
  at_hot s a i k id m v me fit idle = idles told belongs w d s a.place a.tally a.ruled id m v (set s.words i k) me fit idle

  -- the words of instances and channels stay
  low : (s : St T) (i k : ℕ) → 8 * (w.instances + w.channels) ≤ i → (q : ℕ) → q < w.instances + w.channels → get_or (set s.words i k) (8 * q) 0 ≡ get_or s.words (8 * q) 0
  low s i k past q h = get_or-set_other s.words i (8 * q) k 0 (λ e. omega arith)

  -- what a look sees, where it is true
  sights : (s : St T) (a : Whole told belongs w d s) (i id : ℕ) (m : Sat T) (seen : ℕ) → get_elem? s.views id ≡ some m.0 → Fit w m → (seen ≡ 1 → up_count w s.words ≡ 0) → (seen ≡ 2 → halt_word w s.words ≢ 0)
      → (m.0.seen ≡ 2 → seen ≡ 2) → seen ≤ 2 → (halt_word w s.words ≢ 0) ⊎ ((up_count w s.words ≡ 0) ⊎ (budget w s.words ≡ 0)) → Whole told belongs w d (stepped s i (get_or s.words i 0) id m.1 (after_looking m.0 seen) keeps)
  sights s a i id m seen me fit quiet_is halted_is knows small stopped = let o = a.ruled.seats id m.0 me in let v' = after_looking m.0 seen in
      subst (λ (l : List ℕ). Whole told belongs w d record { words = l; homes = s.homes; views = set s.views id v' }) (sym (set-get_or s.words i 0)) (idles told belongs w d s a.place a.tally a.ruled id m v' s.words me fit record {
        wide = refl;
        low = λ q h. refl;
        view_same = (refl, refl, refl, refl);
        drawing = refl;
        tallying = refl;
        counting = refl;
        pairs = o.pairs;
        few = o.few;
        still_quiet = λ e. e;
        still_halted = λ e. e;
        saw_quiet = quiet_is;
        saw_halted = halted_is;
        knows = knows;
        raises = omega arith;
        halter = λ ne. inl ne;
        sights = (small, λ up. knows (o.sights.1 up));
        leaves = λ h. (let free = leaves_free m.0 h in omega arith, stopped);
      })

  pub looks_halted : (n id : ℕ) (m : Sat T) (i : ℕ) → Fit w m → i ≡ 8 * (w.instances + w.channels) + 16 → Allows (Whole told belongs w d) n id m i (λ y. y) (sees_halted (step n i 0 0 none) m)
  looks_halted n id m i fit at s a wide me _ = let r : ℕ = get_or s.words i 0 in let is : r ≡ halt_word w s.words = ap (λ (k : ℕ). get_or s.words k 0) at in
      dite (ℕ_discrete r 0)
      (λ z. (after_step m.0, keeps, tt, unchanged told belongs w d s a i id m me fit, ((λ ne. absurd (ne z)), λ _. ((λ two. (a.ruled.seats id m.0 me).saw_halted two (sym is ∙ z)), refl))))
      (λ ne. let yes : halt_word w s.words ≢ 0 = (λ z. ne (is ∙ z)) in
      (after_looking m.0 2, keeps, tt, sights s a i id m 2 me fit (λ e. absurd (omega (arith, e))) (λ _. yes) (λ _. refl) (omega arith) (inl yes), ((λ _. refl), λ z. absurd (ne z))))

  pub looks_count : (n id : ℕ) (m : Sat T) (i : ℕ) → Fit w m → m.0.seen ≢ 2 → i ≡ 8 * (w.instances + w.channels) + 8 → Allows (Whole told belongs w d) n id m i (λ y. y) (sees_count (step n i 0 0 none) m)
  looks_count n id m i fit alive at s a wide me _ = let r : ℕ = get_or s.words i 0 in let is : r ≡ up_count w s.words = ap (λ (k : ℕ). get_or s.words k 0) at in
      dite (ℕ_discrete r 0)
      (λ z. let yes : up_count w s.words ≡ 0 = sym is ∙ z in
      (after_looking m.0 1, keeps, tt, sights s a i id m 1 me fit (λ _. yes) (λ e. absurd (omega (arith, e))) (λ two. absurd (alive two)) (omega arith) (inr (inl yes)), ((λ _. refl), λ ne. absurd (ne z))))
      (λ ne. (after_step m.0, keeps, tt, unchanged told belongs w d s a i id m me fit, ((λ z. absurd (ne z)), λ _. ((λ one. ne (is ∙ (a.ruled.seats id m.0 me).saw_quiet one)), refl))))

  pub looks_budget : (n id : ℕ) (m : Sat T) (i : ℕ) → Fit w m → i ≡ 8 * (w.instances + w.channels) → Allows (Whole told belongs w d) n id m i (λ y. y) (sees_budget (step n i 0 0 none) m)
  looks_budget n id m i fit at s a wide me _ = let r : ℕ = get_or s.words i 0 in let is : r ≡ budget w s.words = ap (λ (k : ℕ). get_or s.words k 0) at in
      dite (ℕ_discrete r 0)
      (λ z. (after_looking m.0 m.0.seen, keeps, tt, sights s a i id m m.0.seen me fit ((a.ruled.seats id m.0 me).saw_quiet) ((a.ruled.seats id m.0 me).saw_halted) (λ e. e) (a.ruled.seats id m.0 me).sights.0 (inr (inr (sym is ∙ z))), ((λ _. refl), λ ne. absurd (ne z))))
      (λ ne. (after_step m.0, keeps, tt, unchanged told belongs w d s a i id m me fit, ((λ z. absurd (ne z)), λ _. refl)))

  pub notes : (n id : ℕ) (m : Sat T) (i : ℕ) → Fit w m → Allows (Whole told belongs w d) n id m i (λ y. y) (becomes (λ _. after_step) (step n i 0 0 none) m)
  notes n id m i fit s a wide me _ = (after_step m.0, keeps, tt, unchanged told belongs w d s a i id m me fit, refl)

  -- a step that moves events between the budget, the draw and those done
  budgets : (s : St T) (a : Whole told belongs w d s) (i k id : ℕ) (m : Sat T) (drawn done untold : ℕ) → get_elem? s.views id ≡ some m.0 → Fit w m → i ≡ 8 * (w.instances + w.channels) → k + drawn + done ≡ get_or s.words i 0 + m.0.drawn + m.0.done → untold + m.0.done ≡ m.0.untold + done
      → Whole told belongs w d (stepped s i k id m.1 (record (after_step m.0) { drawn = drawn; done = done; untold = untold }) keeps)
  budgets s a i k id m drawn done untold me fit at sum moved = let wide = a.ruled.wide in let ws = set s.words i k in
      let now : budget w ws ≡ k = ap (λ (j : ℕ). get_or ws j 0) (sym at) ∙ get_or-set_same s.words i k 0 (omega arith) in
      let was : budget w s.words ≡ get_or s.words i 0 = ap (λ (j : ℕ). get_or s.words j 0) (sym at) in
      let counts : up_count w ws ≡ up_count w s.words = get_or-set_other s.words i (8 * (w.instances + w.channels) + 8) k 0 (λ e. omega arith) in
      let halts_same : halt_word w ws ≡ halt_word w s.words = get_or-set_other s.words i (8 * (w.instances + w.channels) + 16) k 0 (λ e. omega arith) in
      at_hot s a i k id m (record (after_step m.0) { drawn = drawn; done = done; untold = untold }) me fit (still told belongs w d s a.place a.tally a.ruled id m.0 drawn done untold m.0.owed m.0.down ws me (length-set s.words i k) (low s i k (omega arith))
      (omega (arith, now, was, sum)) moved (omega (arith, counts)) (a.ruled.seats id m.0 me).pairs (omega arith) (λ e. counts ∙ e) halts_same)

  pub draws : (n id : ℕ) (m : Sat T) (i old new : ℕ) → Fit w m → i ≡ 8 * (w.instances + w.channels) → new ≤ old → m.0.drawn ≡ 0 → Allows (Whole told belongs w d) n id m i (λ y. either (eqb y old) new y) (drew (step n i old new none) m)
  draws n id m i old new fit at less none_left s a wide me _ = let r : ℕ = get_or s.words i 0 in
      exchanged r old new (Goes told belongs w d s i id m (drew (step n i old new none) m))
      (λ hit. (
        record (after_step m.0) { drawn = old - new },
        keeps,
        tt,
        budgets s a i new id m (old - new) m.0.done m.0.untold me fit at (omega (arith, hit)) refl,
        (
          (λ _. (
            refl,
            (λ p is_in. let b = a.ruled in let o = b.seats id m.0 me in let inside = o.inside p (omega (arith, is_in)) in
                let was : budget w s.words ≡ r = ap (λ (j : ℕ). get_or s.words j 0) (sym at) in
                omega (arith, b.small, b.budgeted, b.tallied, o.events_when_got p inside is_in, below-term a.tally w.instances p inside, hit, was)),
          )),
          (λ miss. absurd (miss hit)),
        ),
      ))
      (λ miss. (after_step m.0, keeps, tt, unchanged told belongs w d s a i id m me fit, ((λ hit. absurd (miss hit)), λ _. refl)))

  pub uses_some : (n id : ℕ) (m : Sat T) (i k : ℕ) → Fit w m → i ≡ 8 * (w.instances + w.channels) → k ≤ m.0.drawn → Allows (Whole told belongs w d) n id m i (λ y. y) (becomes (λ _ v. after_reporting v k) (step n i 0 0 none) m)
  uses_some n id m i k fit at less s a wide me _ = let r : ℕ = get_or s.words i 0 in
      (after_reporting m.0 k, keeps, tt, budgets s a i r id m (m.0.drawn - k) (m.0.done + k) (m.0.untold + k) me fit at (omega (arith, less)) (omega arith), refl)

  pub gives_back : (n id : ℕ) (m : Sat T) (i k : ℕ) → Fit w m → i ≡ 8 * (w.instances + w.channels) → k ≤ m.0.drawn → Allows (Whole told belongs w d) n id m i (λ y. (y + k) % 2 ^ 64) (becomes (λ n v. after_giving_back v n) (step n i k 0 none) m)
  gives_back n id m i k fit at less s a wide me _ = let r : ℕ = get_or s.words i 0 in let new : ℕ = (r + k) % 2 ^ 64 in let small = a.ruled.small in let sum = a.ruled.budgeted in
      let mine = term_le (λ (v : SeatView). v.drawn) s.views id m.0 me in
      let was : budget w s.words ≡ r = ap (λ (j : ℕ). get_or s.words j 0) (sym at) in
      let is : new ≡ r + k = omega arith in
      (after_giving_back m.0 k, keeps, tt, budgets s a i new id m 0 (m.0.done + (m.0.drawn - k)) (m.0.untold + (m.0.drawn - k)) me fit at (omega arith) (omega arith), refl)

  -- a step on the count
  counts : (s : St T) (a : Whole told belongs w d s) (i k id : ℕ) (m : Sat T) (owed : Owed) (down : ℕ) → get_elem? s.views id ≡ some m.0 → Fit w m → i ≡ 8 * (w.instances + w.channels) + 8
      → k + length owed + m.0.down ≡ get_or s.words i 0 + length m.0.owed + down → Owes m.0.hands owed → down ≤ m.0.down → get_or s.words i 0 ≢ 0
      → Whole told belongs w d (stepped s i k id m.1 (record (after_step m.0) { owed = owed; down = down }) keeps)
  counts s a i k id m owed down me fit at sum pairs less some_left = let wide = a.ruled.wide in let ws = set s.words i k in
      let now : up_count w ws ≡ k = ap (λ (j : ℕ). get_or ws j 0) (sym at) ∙ get_or-set_same s.words i k 0 (omega arith) in
      let was : up_count w s.words ≡ get_or s.words i 0 = ap (λ (j : ℕ). get_or s.words j 0) (sym at) in
      let budgets_same : budget w ws ≡ budget w s.words = get_or-set_other s.words i (8 * (w.instances + w.channels)) k 0 (λ e. omega arith) in
      let halts_same : halt_word w ws ≡ halt_word w s.words = get_or-set_other s.words i (8 * (w.instances + w.channels) + 16) k 0 (λ e. omega arith) in
      at_hot s a i k id m (record (after_step m.0) { owed = owed; down = down }) me fit (still told belongs w d s a.place a.tally a.ruled id m.0 m.0.drawn m.0.done m.0.untold owed down ws me (length-set s.words i k) (low s i k (omega arith))
      (omega (arith, budgets_same)) refl (omega (arith, now, was, sum)) pairs less (λ e. absurd (some_left (sym was ∙ e))) halts_same)

  pub counts_up : (n id : ℕ) (m : Sat T) (i : ℕ) → Fit w m → i ≡ 8 * (w.instances + w.channels) + 8 → w.instances ≤ 256 → 0 < length m.0.owed → Allows (Whole told belongs w d) n id m i (λ y. (y + 1) % 2 ^ 64) (becomes (λ _. after_counting_up) (step n i 1 0 none) m)
  counts_up n id m i fit at few owes s a wide me _ = let r : ℕ = get_or s.words i 0 in let new : ℕ = (r + 1) % 2 ^ 64 in let c = a.ruled in let sum = c.counted in
      let was : up_count w s.words ≡ r = ap (λ (j : ℕ). get_or s.words j 0) (sym at) in
      let downs = downs_few told belongs w d a.place a.tally s c in let ups = below-le (λ p. is_up (a.place p)) w.instances (λ q. up_small (a.place q)) in
      let is : new ≡ r + 1 = omega arith in let mine = term_le (λ (v : SeatView). length v.owed) s.views id m.0 me in
      let some_left : r ≢ 0 = (λ z. let q = a.quiet (was ∙ z) in absurd (omega (arith, q.1))) in
      (after_counting_up m.0, keeps, tt, counts s a i new id m (drop 1 m.0.owed) m.0.down me fit at (omega (arith, one_less m.0.owed owes)) (owes_paid m.0.hands m.0.owed (c.seats id m.0 me).pairs) (omega arith) some_left, refl)

  pub counts_down : (n id : ℕ) (m : Sat T) (i : ℕ) → Fit w m → i ≡ 8 * (w.instances + w.channels) + 8 → 0 < m.0.down → Allows (Whole told belongs w d) n id m i (λ y. (y + (2 ^ 64 - 1)) % 2 ^ 64) (becomes (λ _. after_counting_down) (step n i 1 0 none) m)
  counts_down n id m i fit at owes s a wide me small = let r : ℕ = get_or s.words i 0 in let new : ℕ = (r + (2 ^ 64 - 1)) % 2 ^ 64 in let c = a.ruled in let sum = c.counted in
      let was : up_count w s.words ≡ r = ap (λ (j : ℕ). get_or s.words j 0) (sym at) in
      let mine = term_le (λ (v : SeatView). v.down) s.views id m.0 me in let less = (owed_less told belongs w d a.place a.tally s c).0 in
      let is : new + 1 ≡ r = omega arith in
      (after_counting_down m.0, keeps, tt, counts s a i new id m m.0.owed (m.0.down - 1) me fit at (omega arith) (c.seats id m.0 me).pairs (omega arith) (λ z. omega arith), refl)

  pub stops : (n id : ℕ) (m : Sat T) (i new : ℕ) → Fit w m → i ≡ 8 * (w.instances + w.channels) + 16 → new ≡ 1 → Allows (Whole told belongs w d) n id m i (λ _. new) (λ _. becomes (λ _. after_halting) (step n i new 0 none) m new)
  stops n id m i new fit at one s a wide me _ = let long = a.ruled.wide in let ws = set s.words i new in
      let now : halt_word w ws ≢ 0 = (λ z. absurd (omega (arith, z, one, ap (λ (j : ℕ). get_or ws j 0) (sym at), get_or-set_same s.words i new 0 (omega arith)))) in
      let counts_same : up_count w ws ≡ up_count w s.words = get_or-set_other s.words i (8 * (w.instances + w.channels) + 8) new 0 (λ e. omega arith) in
      let budgets_same : budget w ws ≡ budget w s.words = get_or-set_other s.words i (8 * (w.instances + w.channels)) new 0 (λ e. omega arith) in (
        after_halting m.0,
        keeps,
        tt,
        at_hot s a i new id m (after_halting m.0) me fit record {
          wide = length-set s.words i new;
          low = low s i new (omega arith);
          view_same = (refl, refl, refl, refl);
          drawing = omega (arith, budgets_same);
          tallying = refl;
          counting = omega (arith, counts_same);
          pairs = (a.ruled.seats id m.0 me).pairs;
          few = (a.ruled.seats id m.0 me).few;
          still_quiet = λ e. counts_same ∙ e;
          still_halted = λ _. now;
          saw_quiet = λ e. absurd (omega (arith, e));
          saw_halted = λ _. now;
          knows = λ _. refl;
          raises = omega arith;
          halter = λ _. inr (refl, omega arith);
          sights = (omega arith, λ _. refl);
          leaves = λ h. absurd (omega arith);
        },
        refl,
      )
