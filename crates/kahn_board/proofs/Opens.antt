-- The rule holds of a new board.
use Rattle.kahn_board.proofs.Common.{◌≡◌, ℕ, zero, suc, ◌+◌, ◌*◌, ◌%◌, subst, List, [], ◌∷◌, map, drop, length, get_or, sym, refl, ap, ◌∙◌, arith, Option, Some, None, some, some-injective, some-ne-none, get_elem?, length-map, opening, at_map, Summary, TellsEvents, events_past, Wires, ready, mark_of, St, all_parts, opening_view, published, SeatIs, Whole, events_told, below, AreFirstWords, SeatView, same_Some, Opens}
use Rattle.kahn_board.proofs.{Changes.tells_past, Moved.is_ready, Quiet.whole, Sums.is_there, Reseats.bare}

at_first : {A : Type 0} (a b : A) (j : ℕ) → get_elem? (a ∷ []) j ≡ some b → (j ≡ 0) × (a ≡ b)
at_first a b zero e = (refl, some-injective a b e)
at_first a b (suc j) e = absurd (some-ne-none b (sym e))

no_marks : (reader : Option ℕ) (c : ℕ) → mark_of (λ _. ready) reader c ≡ 0
no_marks None c = refl
no_marks (Some p) c = refl

pub below_first : (f : ℕ → ℕ) (n : ℕ) → below f (suc n) ≡ f 0 + below (λ q. f (suc q)) n
below_first f zero = omega arith
below_first f (suc n) = omega (arith, below_first f n)

below_ones : (n : ℕ) → below (λ q. 1) n ≡ n
below_ones zero = refl
below_ones (suc n) = omega (arith, below_ones n)

module _ {T : Type 0} where
  pub map_some_once : (xs ys : List T) → map Some xs ≡ map Some ys → xs ≡ ys
  map_some_once [] [] e = refl
  map_some_once [] (y ∷ ys) e = absurd (omega (arith, ap length e))
  map_some_once (x ∷ xs) [] e = absurd (omega (arith, ap length e))
  map_some_once (x ∷ xs) (y ∷ ys) e = let head = same_Some x y (ap (λ (l : List (Option T)). elim l [ [] ↦ Some x | z ∷ zs ↦ z ]) e) in let tail = map_some_once xs ys (ap (drop 1) e) in λ i. head i ∷ tail i

  -- a cell that is at home
  of_home : (cells : List T) (i : ℕ) (y : T) → get_elem? (map some (map Some cells)) i ≡ some (some (Some y)) → get_elem? cells i ≡ some y
  of_home [] i y e = absurd (some-ne-none (some (Some y)) (sym e))
  of_home (x ∷ xs) zero y e = let same = same_Some x y (some-injective (Some x) (Some y) (some-injective (some (Some x)) (some (Some y)) e)) in ap some same
  of_home (x ∷ xs) (suc i) y e = of_home xs i y e

module _ {T : Type 0} (told : T → Option Summary) where
  -- what the cell of the instance p tells
  abbrev pub tally_of : List T → ℕ → ℕ
  tally_of [] p = 0
  tally_of (y ∷ ys) zero = events_past (told y) 0
  tally_of (y ∷ ys) (suc p) = tally_of ys p

  all_events : (cells : List T) → below (tally_of cells) (length cells) ≡ events_told told cells
  all_events [] = refl
  all_events (x ∷ xs) = omega (arith, below_first (tally_of (x ∷ xs)) (length xs), all_events xs)

  of_cell : (cells : List T) (p : ℕ) (y : T) → get_elem? cells p ≡ some y → TellsEvents (told y) (tally_of cells p)
  of_cell [] p y e = absurd (some-ne-none y (sym e))
  of_cell (x ∷ xs) zero y e = subst (λ u. TellsEvents (told y) (events_past (told u) 0)) (sym (some-injective x y e)) (tells_past (told y) 0)
  of_cell (x ∷ xs) (suc p) y e = of_cell xs p y e

module _ {T : Type 0} (after : T → T → Type 0) where
  -- the cell y belongs to the instance p, by the cells given
  abbrev pub given : List T → ℕ → T → Type 0
  given cells p y = (x : T) → get_elem? cells p ≡ some x → after x y

  itself : (cells : List T) (p : ℕ) (y : T) → get_elem? cells p ≡ some y → after y y → given cells p y
  itself cells p y e same x f = subst (λ (u : T). after u y) (some-injective y x (sym e ∙ f)) same

module _ {T : Type 0} (told : T → Option Summary) (after : T → T → Type 0) (w : Wires) where
  abbrev start : List ℕ → List T → St T
  start words cells = opening words (map Some cells) (opening_view w)

  pub opens : (bound : ℕ) (words numbers : List ℕ) (cells : List T) → Opens told after w bound numbers cells → AreFirstWords w.instances bound numbers words
      → Whole told (given after cells) w record { bound = bound; events = events_told told cells; published = published w words } (start words cells)
  opens bound words numbers cells o b = let at : (k : ℕ) → get_or words (8 * (w.instances + length numbers) + k) 0 ≡ get_or words (8 * (w.instances + w.channels) + k) 0 = λ k. ap (λ (j : ℕ). get_or words (8 * (w.instances + j) + k) 0) o.numbers_are in
      whole told (given after cells) w _ (λ _. ready) (tally_of told cells) (start words cells) record {
        wide = omega (arith, b.long, o.numbers_are);
        deep = length-map (map Some cells) some ∙ (length-map cells Some ∙ o.cells_are);
        places = λ p h. record {
          word_is = b.ready p h;
          cell_is = let t = is_there cells p (omega (arith, o.cells_are)) in (t.0, at_map some (map Some cells) p (Some t.0) (at_map Some cells p t.0 t.1));
          seated = λ j e. absurd (omega (arith, ap is_ready e));
          reads = λ c e. absurd (omega (arith, ap is_ready e));
        };
        channels = λ c near. record {
          mark = let t = b.twice c (omega (arith, o.numbers_are)) in let even : get_or words (8 * (w.instances + c)) 0 % 2 ≡ 0 = omega arith in even ∙ sym (no_marks (w.reader c) c);
          fixed = λ none_writes. refl;
        };
        cells = λ p y h home. let there = of_home cells p y home in record {
          waits = λ c e. absurd (omega (arith, ap is_ready e));
          ends = λ e. absurd (omega (arith, ap is_ready e));
          flushes = λ c k tells. let t = o.flushes p c k y there tells in let d = b.twice c (omega (arith, o.numbers_are, t.0)) in (t.0, t.1, omega (arith, t.2));
          flushed_all = λ _. o.flushed_all p y there;
          tells = of_cell told cells p y there;
          belonging = itself after cells p y there (o.selves p y there);
        };
        seats = λ j v e. let t = at_first (opening_view w) v j e in
            subst (SeatIs w (λ _. ready) (tally_of told cells) words j) t.1 (bare w (λ _. ready) (tally_of told cells) words j w.instances w.channels all_parts (λ p h. refl) (λ none_left. absurd (omega (arith, none_left))));
        parts = refl;
        small = o.few;
        budgeted = omega (arith, b.budget, ap (λ (j : ℕ). get_or words (8 * (w.instances + j)) 0) o.numbers_are);
        tallied = omega (arith, all_events told cells, ap (below (tally_of told cells)) o.cells_are);
        counted = omega (arith, b.count, at 8, below_ones w.instances);
        halter = λ ne. absurd (ne (sym (at 16) ∙ b.halted));
        left = λ a. let some_done = a.1 in let t = at_first (opening_view w) some_done.1 some_done.0 some_done.2 in absurd (omega (arith, ap (λ (u : SeatView). u.stage) t.1, some_done.3));
      }
