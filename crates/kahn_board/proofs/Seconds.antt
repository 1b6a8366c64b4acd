-- The steps that move no instance, that take one, and that give one up.
use Rattle.kahn_board.proofs.Common.{◌≡◌, ℕ, zero, suc, ◌+◌, ◌*◌, ◌/◌, ◌%◌, ◌^◌, ◌<◌, ◌≤◌, ◌≢◌, ◌⊎◌, inl, ⊎_elim, List, [], ◌∷◌, length, get_or, set, sym, refl, ap, ◌∙◌, subst, arith, Option, Some, length-set, get_or-set_same, get_or-set_other, some, none, some-injective, some-ne-none, get_elem?, takes, gives, stepped, set_here, set_else, same_Some, Summary, TellsWait, TellsEnd, TellsEvents, events_past, Wires, Owed, Owes, is_up, Leaves, Whereabouts, held, parked, over, word_code, held_by, parked_on, mark_of, Sat, IsIn, SeesMore, after_step, after_taking, after_giving_up, St, Deal, published, budget, up_count, halt_word, HasSlot, IsHome, HomeIs, Ruled, Whole, SeatView}
use Rattle.kahn_board.proofs.{Moved.moved, Moved.at_moved, Moved.moved_here, Moved.moved_else, Moved.only_yes, Moved.only_no, Moved.held_apart, Counting.inside_of, Sums.there, Keeps.Stays, Keeps.at_one, Keeps.kept, Changes.ups_moved, Changes.sum_put, Changes.owes_less, Changes.tells_past, Changes.accounted}
use mathlib.Core.Option as maybe

abbrev pub half : ℕ → ℕ
half x = x / 2

-- the numbers f 0 .. f (n - 1)
abbrev numbers : (ℕ → ℕ) → ℕ → List ℕ
numbers f zero = []
numbers f (suc n) = f 0 ∷ numbers (λ k. f (suc k)) n

numbers_long : (f : ℕ → ℕ) (n : ℕ) → length (numbers f n) ≡ n
numbers_long f zero = refl
numbers_long f (suc n) = omega (arith, numbers_long (λ k. f (suc k)) n)

numbers_at : (f : ℕ → ℕ) (n c : ℕ) → c < n → get_or (numbers f n) c 0 ≡ f c
numbers_at f zero c h = absurd (omega arith)
numbers_at f (suc n) zero h = refl
numbers_at f (suc n) (suc c) h = numbers_at (λ k. f (suc k)) n c (omega arith)

-- the numbers published by those words
abbrev pub halves : Wires → List ℕ → List ℕ
halves w ws = numbers (published w ws) w.channels

pub half_at : (w : Wires) (ws : List ℕ) (c : ℕ) → c < w.channels → get_or (halves w ws) c 0 ≡ published w ws c
half_at w ws c h = numbers_at (published w ws) w.channels c h

pub halves_long : (w : Wires) (ws : List ℕ) → length (halves w ws) ≡ w.channels
halves_long w ws = numbers_long (published w ws) w.channels

-- what a seat keeps of its own view
pub record Fit {T : Type 0} (w : Wires) (m : Sat T) : Type 0 where
  pub alive : 0 < m.0.parts
  pub hands_long : length m.0.hands ≡ w.instances
  pub flushed_long : length m.0.flushed ≡ w.channels
  pub got_long : length m.0.events_when_got ≡ w.instances

-- what a step on a word of an instance or a channel leaves
pub record SameHot (w : Wires) (ws ws' : List ℕ) : Type 0 where
  pub budget_same : budget w ws' ≡ budget w ws
  pub count_same : up_count w ws' ≡ up_count w ws
  pub halted_same : halt_word w ws' ≡ halt_word w ws

pub hot : (w : Wires) (ws : List ℕ) (i k : ℕ) → i < 8 * (w.instances + w.channels) → SameHot w ws (set ws i k)
hot w ws i k h = record {
  budget_same = get_or-set_other ws i (8 * (w.instances + w.channels)) k 0 (λ e. omega arith);
  count_same = get_or-set_other ws i (8 * (w.instances + w.channels) + 8) k 0 (λ e. omega arith);
  halted_same = get_or-set_other ws i (8 * (w.instances + w.channels) + 16) k 0 (λ e. omega arith);
}

module _ {T : Type 0} (told : T → Option Summary) (belongs : ℕ → T → Type 0) (w : Wires) (d : Deal) (s : St T) (place : ℕ → Whereabouts) (tally : ℕ → ℕ) (r : Ruled told belongs w d place tally s) where
  -- a step that moves no instance, and leaves the words of instances and channels as they are
  pub record Idle (v v' : SeatView) (ws : List ℕ) : Type 0 where
    pub wide : length ws ≡ length s.words
    pub low : (q : ℕ) → q < w.instances + w.channels → get_or ws (8 * q) 0 ≡ get_or s.words (8 * q) 0
    pub view_same : (v'.parts ≡ v.parts) × (v'.hands ≡ v.hands) × (v'.flushed ≡ v.flushed) × (v'.events_when_got ≡ v.events_when_got)
    pub drawing : budget w ws + v'.drawn + v'.done ≡ budget w s.words + v.drawn + v.done
    pub tallying : v'.untold + v.done ≡ v.untold + v'.done
    pub counting : up_count w ws + length v'.owed + v.down ≡ up_count w s.words + length v.owed + v'.down
    pub pairs : Owes v'.hands v'.owed
    pub few : v'.down ≤ 2 ^ 32 * v'.parts
    pub still_quiet : up_count w s.words ≡ 0 → up_count w ws ≡ 0
    pub still_halted : halt_word w s.words ≢ 0 → halt_word w ws ≢ 0
    pub saw_quiet : v'.seen ≡ 1 → up_count w ws ≡ 0
    pub saw_halted : v'.seen ≡ 2 → halt_word w ws ≢ 0
    pub knows : v.seen ≡ 2 → v'.seen ≡ 2
    pub raises : v.raised ≤ v'.raised
    pub halter : halt_word w ws ≢ 0 → (halt_word w s.words ≢ 0) ⊎ ((v'.seen ≡ 2) × (0 < v'.raised))
    pub sights : (v'.seen ≤ 2) × (0 < v'.raised → v'.seen ≡ 2)
    pub leaves : v'.stage ≤ 1 → (v'.drawn ≡ 0) × ((halt_word w ws ≢ 0) ⊎ ((up_count w ws ≡ 0) ⊎ (budget w ws ≡ 0)))

  pub idles : (id : ℕ) (m : Sat T) (v' : SeatView) (ws : List ℕ) → get_elem? s.views id ≡ some m.0 → Fit w m → Idle m.0 v' ws → Whole told belongs w d record { words = ws; homes = s.homes; views = set s.views id v' }
  idles id m v' ws me fit k = let v = m.0 in let o = r.seats id v me in let pub_same : (c : ℕ) → c < w.channels → published w ws c ≡ published w s.words c = λ c h. ap half (k.low (w.instances + c) (omega arith)) in
      let held : (q : ℕ) → get_or v'.hands q 0 ≡ get_or v.hands q 0 = λ q. ap (λ (l : List ℕ). get_or l q 0) k.view_same.1 in
      kept told belongs w d s place place tally tally r id w.instances v v' ws s.homes record {
        mine = me;
        wide = k.wide;
        deep = refl;
        elsewhere = λ q h ne. (k.low q (omega arith), refl, refl, refl);
        its = λ h. absurd (omega arith);
        theirs = λ h. absurd (omega arith);
        cell = λ y h. absurd (omega arith);
        own = record {
          hands = λ q h. held q ∙ o.hands q h;
          inside = λ q h. o.inside q (omega (arith, h, held q));
          known = λ q c h one near writes. ap (λ (l : List ℕ). get_or l c 0) k.view_same.2 ∙ (o.known q c h (sym (held q) ∙ one) near writes ∙ sym (pub_same c near));
          events_when_got = λ q h one. ap (λ (l : List ℕ). get_or l q 0) k.view_same.3 ∙ o.events_when_got q h (sym (held q) ∙ one);
          pairs = k.pairs;
          few = k.few;
          saw_quiet = k.saw_quiet;
          saw_halted = k.saw_halted;
          sights = k.sights;
          idle = λ h. (k.leaves h).0;
          spends = λ none_left. absurd (omega (arith, none_left, k.view_same.0, fit.alive));
        };
        marks = λ c h. ap (λ (n : ℕ). n % 2) (k.low (w.instances + c) (omega arith)) ∙ (r.channels c h).mark;
        same = λ c h. inl (pub_same c h);
        parts = k.view_same.0;
        drawing = k.drawing;
        tallying = omega (arith, k.tallying);
        counting = omega (arith, k.counting);
        still_quiet = k.still_quiet;
        still_halted = k.still_halted;
        knows = k.knows;
        raises = k.raises;
        halter = k.halter;
        leaves = λ h. (k.leaves h).1;
      }

  -- a step of a seat that keeps its hands, and what it saw and halted
  pub still : (id : ℕ) (v : SeatView) (drawn done untold : ℕ) (owed : Owed) (down : ℕ) (ws : List ℕ) → get_elem? s.views id ≡ some v → length ws ≡ length s.words → ((q : ℕ) → q < w.instances + w.channels → get_or ws (8 * q) 0 ≡ get_or s.words (8 * q) 0)
      → budget w ws + drawn + done ≡ budget w s.words + v.drawn + v.done → untold + v.done ≡ v.untold + done → up_count w ws + length owed + v.down ≡ up_count w s.words + length v.owed + down → Owes v.hands owed → down ≤ v.down
      → (up_count w s.words ≡ 0 → up_count w ws ≡ 0) → halt_word w ws ≡ halt_word w s.words → Idle v (record (after_step v) { drawn = drawn; done = done; untold = untold; owed = owed; down = down }) ws
  still id v drawn done untold owed down ws me wide low drawing tallying counting pairs less quiet halts = let o = r.seats id v me in record {
    wide = wide;
    low = low;
    view_same = (refl, refl, refl, refl);
    drawing = drawing;
    tallying = tallying;
    counting = counting;
    pairs = pairs;
    few = omega (arith, less, o.few);
    still_quiet = quiet;
    still_halted = λ ne e. ne (sym halts ∙ e);
    saw_quiet = λ e. quiet (o.saw_quiet e);
    saw_halted = λ e z. o.saw_halted e (sym halts ∙ z);
    knows = λ e. e;
    raises = omega arith;
    halter = λ ne. inl (λ z. ne (halts ∙ z));
    sights = o.sights;
    leaves = λ h. absurd (omega arith);
  }

  -- the instance p comes into the hands of the seat id, which then knows all that is published, and owes these counts up
  pub take_step : (i k id : ℕ) (m : Sat T) (p : ℕ) (y : T) (owed : Owed) (seen : ℕ) → get_elem? s.views id ≡ some m.0 → Fit w m → p < w.instances → IsHome s p y → i < 8 * (w.instances + w.channels) → ((j : ℕ) → held_by j (place p) ≡ 0)
      → get_or (set s.words i k) (8 * p) 0 ≡ 1 → ((q : ℕ) → q < w.instances → q ≢ p → get_or (set s.words i k) (8 * q) 0 ≡ get_or s.words (8 * q) 0)
      → ((c : ℕ) → c < w.channels → get_or (set s.words i k) (8 * (w.instances + c)) 0 % 2 ≡ mark_of (moved place p (held id)) (w.reader c) c) → ((c : ℕ) → c < w.channels → Stays w place s (set s.words i k) id p c)
      → is_up (place p) + length owed ≡ length m.0.owed + 1 → Owes (set m.0.hands p 1) owed → SeesMore m.0.seen seen → (seen ≡ 2 → halt_word w s.words ≢ 0)
      → Whole told belongs w d (stepped s i k id m.1 (record (after_taking m.0 p (halves w (set s.words i k)) (tally p) seen) { owed = owed }) (takes p (Some y)))
  take_step i k id m p y owed seen me fit inside home near free word_is words_are marks same ups pairs sees halted_is = let v = m.0 in let ws = set s.words i k in let hs : List (maybe.Option (Option T)) = set s.homes p none in let o = r.seats id v me in
      let hots = hot w s.words i k near in let v' : SeatView = record (after_taking v p (halves w ws) (tally p) seen) { owed = owed } in let place' = moved place p (held id) in
      let at_p : get_elem? hs p ≡ some none = set_here s.homes p none (omega (arith, r.deep)) in
      let is : place' p ≡ held id = moved_here place p (held id) in
      kept told belongs w d s place place' tally tally r id p v v' ws hs record {
        mine = me;
        wide = length-set s.words i k;
        deep = length-set s.homes p none;
        elsewhere = λ q h ne. (words_are q h ne, moved_else place p (held id) q ne, refl, set_else s.homes p q none ne);
        its = λ h. record {
          word_is = word_is ∙ ap word_code (sym is);
          cell_is = subst (λ (x : Whereabouts). HasSlot x (get_elem? hs p)) (sym is) at_p;
          seated = λ j e. omega (arith, length-set s.views id v', held_apart j id (sym e ∙ is), there s.views id v me);
          reads = λ c e. absurd (omega (arith, ap (parked_on c) (sym is ∙ e), only_yes c));
        };
        theirs = λ h j ne. (free j, ap (held_by j) is ∙ only_no j id (λ e. ne (sym e)));
        cell = λ z h e. absurd (some-ne-none (Some z) (some-injective (some (Some z)) none (sym e ∙ at_p)));
        own = record {
          hands = λ q. at_moved (λ l x. l < w.instances → get_or (set v.hands p 1) l 0 ≡ held_by id x) place p (held id) q (λ _. get_or-set_same v.hands p 1 0 (omega (arith, fit.hands_long)) ∙ sym (only_yes id)) (λ ne h. get_or-set_other v.hands p q 1 0 ne ∙ o.hands q h);
          inside = λ q h. let t = inside_of (set v.hands p 1) q h in omega (arith, length-set v.hands p 1, fit.hands_long);
          known = λ q c h one near_c writes. half_at w ws c near_c;
          events_when_got = λ q. at_one (λ l. l < w.instances → get_or (set v.hands p 1) l 0 ≡ 1 → get_or (set v.events_when_got p (tally p)) l 0 ≡ tally l) q p (λ h one. get_or-set_same v.events_when_got p (tally p) 0 (omega (arith, fit.got_long)))
              (λ ne h one. get_or-set_other v.events_when_got p q (tally p) 0 ne ∙ o.events_when_got q h (sym (get_or-set_other v.hands p q 1 0 ne) ∙ one));
          pairs = pairs;
          few = o.few;
          saw_quiet = λ e. hots.count_same ∙ ⊎_elim (λ old. o.saw_quiet (sym old ∙ e)) (λ two. absurd (omega arith)) sees;
          saw_halted = λ e z. halted_is e (sym hots.halted_same ∙ z);
          sights = (⊎_elim (λ old. omega (arith, old, o.sights.0)) (λ two. omega (arith, two)) sees, λ up. ⊎_elim (λ old. old ∙ o.sights.1 up) (λ two. two) sees);
          idle = λ h. absurd (omega arith);
          spends = λ none_left. absurd (omega (arith, none_left, fit.alive));
        };
        marks = marks;
        same = same;
        parts = refl;
        drawing = omega (arith, hots.budget_same);
        tallying = refl;
        counting = omega (arith, hots.count_same, ups, ups_moved place p (held id) w.instances inside);
        still_quiet = λ e. hots.count_same ∙ e;
        still_halted = λ ne e. ne (sym hots.halted_same ∙ e);
        knows = λ e. ⊎_elim (λ old. old ∙ e) (λ two. two) sees;
        raises = omega arith;
        halter = λ ne. inl (λ z. ne (hots.halted_same ∙ z));
        leaves = λ h. absurd (omega arith);
      }

  -- the seat id gives the instance p with the cell y up, which then stands at x, with `more` counts down to pay
  pub give_step : (i k id : ℕ) (v : SeatView) (rest : List (ℕ × Option T)) (p : ℕ) (y : T) (x : Whereabouts) (more : ℕ) → get_elem? s.views id ≡ some v → Fit w (v, (p, Some y) ∷ rest) → p < w.instances → IsIn v p → i < 8 * (w.instances + w.channels) → place p ≡ held id → ((j : ℕ) → held_by j x ≡ 0)
      → get_or (set s.words i k) (8 * p) 0 ≡ word_code x → ((q : ℕ) → q < w.instances → q ≢ p → get_or (set s.words i k) (8 * q) 0 ≡ get_or s.words (8 * q) 0)
      → ((c : ℕ) → c < w.channels → get_or (set s.words i k) (8 * (w.instances + c)) 0 % 2 ≡ mark_of (moved place p x) (w.reader c) c) → ((c : ℕ) → c < w.channels → published w (set s.words i k) c ≡ published w s.words c)
      → HasSlot x (some (some (Some y))) → ((c : ℕ) → x ≡ parked c → (c < w.channels) × (w.reader c ≡ Some p) × TellsWait (told y) c (published w (set s.words i k) c)) → (x ≡ over → TellsEnd (told y))
      → is_up x + more ≡ 1 → Leaves told belongs w v p y → v.down < 2 ^ 32
      → Whole told belongs w d (stepped s i k id ((p, Some y) ∷ rest) (after_giving_up v p (told y) more) gives)
  give_step i k id v rest p y x more me fit inside is_in near was free word_is words_are marks same stands waits ends ups leaves few = let ws = set s.words i k in let hs : List (maybe.Option (Option T)) = set s.homes p (some (Some y)) in let o = r.seats id v me in
      let hots = hot w s.words i k near in let v' : SeatView = after_giving_up v p (told y) more in let place' = moved place p x in let g = get_or v.events_when_got p 0 in let e' = events_past (told y) g in let tally' : ℕ → ℕ = moved tally p e' in
      let acc = accounted (told y) g v.untold leaves.1 in let acc₀ = acc.0 in let acc₁ = acc.1 in
      let at_p : get_elem? hs p ≡ some (some (Some y)) = set_here s.homes p (some (Some y)) (omega (arith, r.deep)) in
      let is : place' p ≡ x = moved_here place p x in
      kept told belongs w d s place place' tally tally' r id p v v' ws hs record {
        mine = me;
        wide = length-set s.words i k;
        deep = length-set s.homes p (some (Some y));
        elsewhere = λ q h ne. (words_are q h ne, moved_else place p x q ne, moved_else tally p e' q ne, set_else s.homes p q (some (Some y)) ne);
        its = λ h. record {
          word_is = word_is ∙ ap word_code (sym is);
          cell_is = subst (HasSlot (place' p)) (sym at_p) (subst (λ (z : Whereabouts). HasSlot z (some (some (Some y)))) (sym is) stands);
          seated = λ j e. absurd (omega (arith, ap (held_by j) (sym is ∙ e), free j, only_yes j));
          reads = λ c e. let t = waits c (sym is ∙ e) in (t.0, t.1);
        };
        theirs = λ h j ne. (ap (held_by j) was ∙ only_no j id (λ e. ne (sym e)), ap (held_by j) is ∙ free j);
        cell = λ z h home. let same_cell : y ≡ z = same_Some y z (some-injective (Some y) (Some z) (some-injective (some (Some y)) (some (Some z)) (sym at_p ∙ home))) in subst (λ (u : T). HomeIs told belongs w place' tally' ws p u) same_cell record {
          waits = λ c e. (waits c (sym is ∙ e)).2;
          ends = λ e. ends (sym is ∙ e);
          flushes = λ c l tells. let t = leaves.0 c l tells in (t.0, t.1, t.2 ∙ (o.known p c inside is_in t.0 t.1 ∙ sym (same c t.0)));
          flushed_all = λ z. ⊎_elim (λ two. absurd (o.saw_halted two (sym hots.halted_same ∙ z))) (λ f. f) leaves.2;
          tells = subst (TellsEvents (told y)) (sym (moved_here tally p e')) (tells_past (told y) g);
          belonging = leaves.4;
        };
        own = record {
          hands = λ q. at_moved (λ l z. l < w.instances → get_or (set v.hands p 0) l 0 ≡ held_by id z) place p x q (λ _. get_or-set_same v.hands p 0 0 (omega (arith, fit.hands_long)) ∙ sym (free id)) (λ ne h. get_or-set_other v.hands p q 0 0 ne ∙ o.hands q h);
          inside = λ q h. let t = inside_of (set v.hands p 0) q h in omega (arith, length-set v.hands p 0, fit.hands_long);
          known = λ q c h one near_c writes. o.known q c h (still_in q one).1 near_c writes ∙ sym (same c near_c);
          events_when_got = λ q h one. let t = still_in q one in o.events_when_got q h t.1 ∙ sym (moved_else tally p e' q t.0);
          pairs = owes_less v.hands p v.owed leaves.3 o.pairs;
          few = omega (arith, fit.alive, few, ups);
          saw_quiet = λ e. hots.count_same ∙ o.saw_quiet e;
          saw_halted = λ e z. o.saw_halted e (sym hots.halted_same ∙ z);
          sights = o.sights;
          idle = λ h. absurd (omega arith);
          spends = λ none_left. absurd (omega (arith, none_left, fit.alive));
        };
        marks = marks;
        same = λ c h. inl (same c h);
        parts = refl;
        drawing = omega (arith, hots.budget_same);
        tallying = omega (arith, sum_put tally p e' w.instances inside, o.events_when_got p inside is_in);
        counting = omega (arith, hots.count_same, ups, ups_moved place p x w.instances inside, ap is_up was);
        still_quiet = λ e. hots.count_same ∙ e;
        still_halted = λ ne e. ne (sym hots.halted_same ∙ e);
        knows = λ e. e;
        raises = omega arith;
        halter = λ ne. inl (λ z. ne (hots.halted_same ∙ z));
        leaves = λ h. absurd (omega arith);
      }
    where
      -- what is still in the hands is another one
      still_in : (q : ℕ) → get_or (set v.hands p 0) q 0 ≡ 1 → (q ≢ p) × (get_or v.hands q 0 ≡ 1)
      still_in q one = let ne : q ≢ p = (λ e. absurd (omega (arith, one, ap (λ (l : ℕ). get_or (set v.hands p 0) l 0) e, get_or-set_same v.hands p 0 0 (omega (arith, fit.hands_long))))) in (ne, sym (get_or-set_other v.hands p q 0 0 ne) ∙ one)
