-- A quiet run stays quiet.
use Rattle.kahn_board.proofs.Common.{◌≡◌, ◌≢◌, ◌⊎◌, inl, inr, ℕ, zero, suc, ◌+◌, ◌*◌, ◌%◌, ◌<◌, ◌≤◌, List, [], ◌∷◌, length, get_or, get_or-set_other, ap, refl, sym, ◌∙◌, subst, arith, dite, dec_le, ℕ_discrete, Act, Option, Summary, SeatView, Wires, Deal, St, Whole, IsIn, Whereabouts, held, held_by, is_up, mark_of, over, parked, parked_on, ready, stepped, total, below, word_code, up_count, get_elem?, some, budget_at, halted_at}
use Rattle.kahn_board.proofs.{Moved.code_ready, Moved.only_yes, Steps.mine_is, Sums.term_le, Sums.total-set}
use Rattle.kahn_board.specs.Rule.{channel_at, count_at}
use Rattle.kahn_board.specs.Final.{MayMake, in_hands, StaysQuiet, StepKind, claims, draws, halts, loads, pays, sets, tells, words_after}

-- nobody holds one that is parked or over
none_held : (j : ℕ) (x : Whereabouts) → is_up x ≡ 0 → held_by j x ≡ 0
none_held j ready e = refl
none_held j (held k) e = absurd (omega (arith, e))
none_held j (parked c) e = refl
none_held j over e = refl

-- it stays parked or over if neither its word nor the mark of the channel changes on which it is parked
stays_down : (x y : Whereabouts) → is_up x ≡ 0 → word_code y ≡ word_code x → ((c : ℕ) → x ≡ parked c → parked_on c y ≡ 1) → is_up y ≡ 0
stays_down ready y e w h = absurd (omega (arith, e))
stays_down (held k) y e w h = absurd (omega (arith, e))
stays_down over ready e w h = absurd (omega (arith, w))
stays_down over (held k) e w h = absurd (omega (arith, w))
stays_down over (parked c) e w h = refl
stays_down over over e w h = refl
stays_down (parked c) ready e w h = absurd (omega (arith, w))
stays_down (parked c) (held k) e w h = absurd (omega (arith, h c refl))
stays_down (parked c) (parked d) e w h = refl
stays_down (parked c) over e w h = refl

all_zero : (l : List ℕ) → ((p : ℕ) → get_or l p 0 ≡ 0) → total (λ k. k) l ≡ 0
all_zero [] h = refl
all_zero (x ∷ xs) h = let first : x ≡ 0 = h 0 in omega (arith, first, all_zero xs (λ p. h (suc p)))

below_zero : (f : ℕ → ℕ) (n : ℕ) → ((p : ℕ) → p < n → f p ≡ 0) → below f n ≡ 0
below_zero f zero h = refl
below_zero f (suc n) h = omega (arith, h n (omega arith), below_zero f n (λ p l. h p (omega (arith, l))))

module _ {T : Type 0} (told : T → Option Summary) (belongs : ℕ → T → Type 0) (w : Wires) (d : Deal) (s : St T) (a : Whole told belongs w d s) (zero_now : up_count w s.words ≡ 0)
    (j : ℕ) (v : SeatView) (me : get_elem? s.views j ≡ some v) where
  none_up : (p : ℕ) (x : Whereabouts) → p < w.instances → a.place p ≡ x → is_up x ≡ 1 → ⊥
  none_up p x h is up = let none = (a.quiet zero_now).0 p h in omega (arith, none, up, ap is_up is)

  not_mine : (p : ℕ) → p < w.instances → IsIn v p → ⊥
  not_mine p h mine = none_up p (held j) h (mine_is told belongs w d s a j v p me h mine) refl

  owes_none : (0 < length v.owed) ⊎ (0 < v.down) → ⊥
  owes_none (inl up) = let less = term_le (λ (u : SeatView). length u.owed) s.views j v me in let none = (a.quiet zero_now).1 in omega (arith, up, less, none)
  owes_none (inr down) = let less = term_le (λ (u : SeatView). u.down) s.views j v me in let none = (a.quiet zero_now).2 in omega (arith, down, less, none)

  pub stays_quiet : (k : StepKind) → MayMake w v s.words k → StaysQuiet w s.words (words_after w s.words k)
  stays_quiet loads m = λ i _ _. refl
  stays_quiet (claims p) m = absurd (none_up p ready m.0 (code_ready (a.place p) (sym (a.ruled.places p m.0).word_is ∙ m.1)) refl)
  stays_quiet (sets p k) m = absurd (not_mine p m.0 m.1)
  stays_quiet (tells p c k) m = absurd (not_mine p m.0 m.1)
  stays_quiet (pays k) m = absurd (owes_none m)
  stays_quiet (draws k) m = λ i apart _. get_or-set_other s.words (budget_at w) i k 0 apart
  stays_quiet halts m = λ i _ apart. get_or-set_other s.words (halted_at w) i 1 0 apart

  no_hands : total (λ k. k) v.hands ≡ 0
  no_hands =
      let seat = a.ruled.seats j v me in
      all_zero v.hands (λ p. dite (dec_le (get_or v.hands p 0) 0) (λ z. omega (arith, z))
      (λ some_held. let h = seat.inside p (omega (arith, some_held)) in seat.hands p h ∙ none_held j (a.place p) ((a.quiet zero_now).0 p h)))

  -- a step on the count that keeps the rule
  module _ (i n : ℕ) (slots : List (ℕ × Option T)) (act : Act (Option T)) (u : SeatView) (few : u.down ≤ v.down + in_hands v)
      (b : Whole told belongs w d (stepped s i n j slots u act)) (here : count_at w ≡ i) where
    same_word : (k : ℕ) → k ≢ count_at w → get_or (stepped s i n j slots u act).words k 0 ≡ get_or s.words k 0
    same_word k apart = get_or-set_other s.words i k n 0 (λ e. apart (e ∙ sym here))

    marked : (p c : ℕ) → p < w.instances → a.place p ≡ parked c → parked_on c (b.place p) ≡ 1
    marked p c h e =
        let r = (a.ruled.places p h).reads c e in
        let was : get_or s.words (channel_at w c) 0 % 2 ≡ parked_on c (a.place p) =
        subst (λ (q : Option ℕ). get_or s.words (channel_at w c) 0 % 2 ≡ mark_of a.place q c) r.1 (a.ruled.channels c r.0).mark in
        let is : get_or (stepped s i n j slots u act).words (channel_at w c) 0 % 2 ≡ parked_on c (b.place p) =
        subst (λ (q : Option ℕ). get_or (stepped s i n j slots u act).words (channel_at w c) 0 % 2 ≡ mark_of b.place q c) r.1 (b.ruled.channels c r.0).mark in
        let inside = r.0 in
        let apart : channel_at w c ≢ count_at w = λ z. omega (arith, inside, z) in
        sym is ∙ (ap (λ m. m % 2) (same_word (channel_at w c) apart) ∙ (was ∙ (ap (parked_on c) e ∙ only_yes c)))

    all_down : (p : ℕ) → p < w.instances → is_up (b.place p) ≡ 0
    all_down p h =
        let apart : 8 * p ≢ count_at w = λ z. omega (arith, h, z) in
        stays_down (a.place p) (b.place p) ((a.quiet zero_now).0 p h)
        (sym (b.ruled.places p h).word_is ∙ (same_word (8 * p) apart ∙ (a.ruled.places p h).word_is)) (λ c e. marked p c h e)

    no_downs : total (λ (x : SeatView). x.down) (stepped s i n j slots u act).views ≡ 0
    no_downs =
        let sum = total-set (λ (x : SeatView). x.down) s.views j v u me in
        let mine = term_le (λ (x : SeatView). x.down) s.views j v me in
        omega (arith, sum, mine, (a.quiet zero_now).2, few, no_hands)

    none_counted : up_count w (stepped s i n j slots u act).words ≡ 0
    none_counted = omega (arith, b.ruled.counted, below_zero (λ p. is_up (b.place p)) w.instances all_down, no_downs)

  pub count_stays : (i n : ℕ) (slots : List (ℕ × Option T)) (act : Act (Option T)) (u : SeatView) → u.down ≤ v.down + in_hands v →
      Whole told belongs w d (stepped s i n j slots u act) → up_count w (stepped s i n j slots u act).words ≡ 0
  count_stays i n slots act u few b =
      dite (ℕ_discrete (count_at w) i) (λ here. none_counted i n slots act u few b here) (λ apart. get_or-set_other s.words i (count_at w) n 0 apart ∙ zero_now)
