-- What a seat's own facts give to its steps, and how each step keeps them.
use Rattle.kahn_board.proofs.Common.{◌≡◌, ℕ, zero, suc, replicate, ◌+◌, ◌*◌, ◌<◌, ◌≤◌, List, [], ◌∷◌, ◌++◌, ◌≢◌, inl, inr, map, drop, length, get_or, length-set, arith, sym, refl, ap, ◌∙◌, subst, Option, Some, TableId, rest, Summary, Wires, ListsHands, Facts, Carries, total, only, Sat, after_step, after_taking, after_waking, Got, HoldsNothing, turned as shifted}
use Rattle.kahn_board.proofs.{Moved.only_yes, Seconds.Fit, Counting.has_room, Counting.took_one, Counting.put_once, Counting.turned_one}

lists_turned : (items hands : List ℕ) → 0 < length items → ListsHands items hands → ListsHands (drop 1 items ++ get_or items 0 0 ∷ []) hands
lists_turned [] hands h l = absurd (omega arith)
lists_turned (x ∷ xs) hands h l = turned_one xs hands x l

abbrev Slots : Type 0 → Type 0
Slots T = List (ℕ × Option T)

module _ {T : Type 0} where
  abbrev numbers : Slots T → List ℕ
  numbers c = map (λ x. x.0) c

  map_push : (c : Slots T) (x : ℕ × Option T) → numbers (c ++ x ∷ []) ≡ numbers c ++ x.0 ∷ []
  map_push [] x = refl
  map_push (y ∷ ys) x = ap (λ (l : List ℕ). y.0 ∷ l) (map_push ys x)

  pub numbers_shifted : (c : Slots T) (items : List ℕ) → numbers c ≡ items → 0 < length items → numbers (shifted c) ≡ drop 1 items ++ get_or items 0 0 ∷ []
  numbers_shifted [] items e h = absurd (omega (arith, ap length e))
  numbers_shifted (x ∷ xs) items e h = map_push xs x ∙ ap (λ (l : List ℕ). drop 1 l ++ get_or l 0 0 ∷ []) e

  carries_more : (c d : Slots T) (q : ℕ) (y : Option T) → Carries c q y → Carries (c ++ d) q y
  carries_more [] d q y h = absurd h
  carries_more (x ∷ xs) d q y (inl e) = inl e
  carries_more (x ∷ xs) d q y (inr h) = inr (carries_more xs d q y h)

  carries_last : (c : Slots T) (q : ℕ) (y : Option T) (x : ℕ × Option T) → x ≡ (q, y) → Carries (c ++ x ∷ []) q y
  carries_last [] q y x e = inl e
  carries_last (z ∷ zs) q y x e = inr (carries_last zs q y x e)

  pub carries_shifted : (c : Slots T) (q : ℕ) (y : Option T) → Carries c q y → Carries (shifted c) q y
  carries_shifted [] q y h = h
  carries_shifted (x ∷ xs) q y (inl e) = carries_last xs q y x e
  carries_shifted (x ∷ xs) q y (inr h) = carries_more xs (x ∷ []) q y h

  -- a slot is out once
  carries_numbered : (c : Slots T) (q : ℕ) (y : Option T) → Carries c q y → 0 < total (only q) (numbers c)
  carries_numbered [] q y h = absurd h
  carries_numbered (x ∷ xs) q y (inl e) = omega (arith, subst (λ (k : ℕ). only q k ≡ 1) (ap (λ (z : ℕ × Option T). z.0) (sym e)) (only_yes q))
  carries_numbered (x ∷ xs) q y (inr h) = omega (arith, carries_numbered xs q y h)

  pub carries_first : (c : Slots T) (p : ℕ) (x y : Option T) → total (only p) (numbers ((p, x) ∷ c)) ≤ 1 → Carries ((p, x) ∷ c) p y → x ≡ y
  carries_first c p x y h (inl e) = ap (λ (z : ℕ × Option T). z.1) e
  carries_first c p x y h (inr k) = absurd (omega (arith, only_yes p, carries_numbered c p y k))

  carries_same : (c : Slots T) (p : ℕ) (x y : Option T) → total (only p) (numbers c) ≤ 1 → Carries c p x → Carries c p y → x ≡ y
  carries_same [] p x y h k l = absurd k
  carries_same (u ∷ us) p x y h (inl e) l = carries_first us p x y (subst (λ (n : ℕ). only p n + total (only p) (numbers us) ≤ 1) (ap (λ (z : ℕ × Option T). z.0) e) h) (subst (λ (z : ℕ × Option T). Carries (z ∷ us) p y) e l)
  carries_same (u ∷ us) p x y h (inr k) (inl f) = sym (carries_first us p y x (subst (λ (n : ℕ). only p n + total (only p) (numbers us) ≤ 1) (ap (λ (z : ℕ × Option T). z.0) f) h) (inr k))
  carries_same (u ∷ us) p x y h (inr k) (inr l) = carries_same us p x y (omega (arith, h)) k l

  -- a seat has one thing of p
  pub carries_once : (m : Sat T) (z : TableId) (items : List ℕ) (room p : ℕ) (x y : Option T) → Facts m z items room → Carries m.1 p x → Carries m.1 p y → x ≡ y
  carries_once m z items room p x y f k l = carries_same m.1 p x y (omega (arith, ap (total (only p)) f.3, f.4 p, f.5 p)) k l

  pub carries_others : (c : Slots T) (p : ℕ) (x z : Option T) (q : ℕ) (y : Option T) → q ≢ p → Carries ((p, x) ∷ c) q y → Carries ((p, z) ∷ c) q y
  carries_others c p x z q y ne (inl e) = absurd (ne (sym (ap (λ (k : ℕ × Option T). k.0) e)))
  carries_others c p x z q y ne (inr h) = inr h

  pub first_is : (c : Slots T) (items : List ℕ) (p : ℕ) → numbers c ≡ items → 0 < length items → get_or items 0 0 ≡ p → (x : Option T) × (c ≡ (p, x) ∷ rest c)
  first_is [] items p e h f = absurd (omega (arith, ap length e))
  first_is (y ∷ ys) items p e h f = (y.1, ap (λ (k : ℕ). (k, y.1) ∷ ys) (ap (λ (l : List ℕ). get_or l 0 0) e ∙ f))

  -- what stands first is what the seat has of p
  pub front_is : (m : Sat T) (z : TableId) (items : List ℕ) (room p : ℕ) (x y : Option T) → Facts m z items room → m.1 ≡ (p, x) ∷ rest m.1 → Carries m.1 p y → x ≡ y
  front_is m z items room p x y f is h = carries_first (rest m.1) p x y (omega (arith, ap (λ (c : Slots T). total (only p) (numbers c)) is, ap (total (only p)) f.3, f.4 p, f.5 p)) (subst (λ (c : Slots T). Carries c p y) is h)

  pub at_front : (m : Sat T) (z : TableId) (items : List ℕ) (room p : ℕ) (y : T) → Facts m z items room → (x : Option T) × (m.1 ≡ (p, x) ∷ rest m.1) → Carries m.1 p (Some y) → m ≡ (m.0, (p, Some y) ∷ rest m.1)
  at_front m z items room p y f first h = let is = front_is m z items room p first.0 (Some y) f first.1 h in let e = first.1 ∙ ap (λ (x : Option T). (p, x) ∷ rest m.1) is in λ i. (m.0, e i)

  pub facts_turned : (m m' : Sat T) (z z' : TableId) (items items' : List ℕ) (room room' : ℕ) → Facts m z items room → z' ≡ z → m' ≡ (m.0, shifted m.1) → 0 < length items → items' ≡ drop 1 items ++ get_or items 0 0 ∷ [] → room' ≡ room → Facts m' z' items' room'
  facts_turned m m' z z' items items' room room' f same is some_left is_items same_room =
      let now : Facts (m.0, shifted m.1) z (drop 1 items ++ get_or items 0 0 ∷ []) room = (f.0, f.1, f.2, numbers_shifted m.1 items f.3 some_left, lists_turned items m.0.hands some_left f.4, f.5, f.6, f.7) in
      subst (λ (k : TableId × Sat T × List ℕ × ℕ). Facts k.1 k.0 k.2 k.3) (λ i. (sym same i, sym is i, sym is_items i, sym same_room i)) now

module _ {T : Type 0} where
  pub fit : (w : Wires) (m : Sat T) (z z' : TableId) (items : List ℕ) (room : ℕ) (n k : ℕ) → Facts m z items room → z ≡ z' → (z'.words ≡ 8 * (n + k) + 24) × (z'.slots ≡ n) → (w.instances ≡ n) × (w.channels ≡ k) → Fit w m
  fit w m z z' items room n k f same sized wired = let a = ap (λ (k : TableId). k.words) same in let b = ap (λ (k : TableId). k.slots) same in
      record { alive = f.0; hands_long = f.1 ∙ (b ∙ (sized.1 ∙ sym wired.0)); flushed_long = omega (arith, f.2, sized.0, sized.1, wired.1); got_long = f.7 ∙ (b ∙ (sized.1 ∙ sym wired.0)) }

  pub facts_noted : (m m' : Sat T) (z z' : TableId) (items : List ℕ) (room : ℕ) → Facts m z items room → z' ≡ z → m' ≡ (after_step m.0, m.1) → Facts m' z' items room
  facts_noted m m' z z' items room f same is = subst (λ (k : TableId × Sat T). Facts k.1 k.0 items room) (λ i. (sym same i, sym is i)) f

  -- a seat that woke a reader
  pub facts_waking : (m : Sat T) (z : TableId) (items : List ℕ) (room c count p q : ℕ) → Facts m z items room → Facts (after_waking m.0 c count p q, m.1) z items room
  facts_waking m z items room c count p q f = (f.0, f.1, ap (λ (k : ℕ). 8 * (z.slots + k) + 24) (length-set m.0.flushed c count) ∙ f.2, f.3, f.4, f.5, f.6, f.7)

  pub room_for : (m : Sat T) (z : TableId) (items : List ℕ) (room p : ℕ) → Facts m z items room → get_or m.0.hands p 0 ≡ 0 → p < z.slots → length items < room
  room_for m z items room p f free inside = omega (arith, has_room items m.0.hands p f.4 f.5 (omega (arith, f.1)) free, f.1, f.6)

module _ {T : Type 0} (told : T → Option Summary) (belongs : ℕ → T → Type 0) (w : Wires) where
  pub facts_took : (m m' : Sat T) (z z' : TableId) (items items' : List ℕ) (room room' p : ℕ) (y : T) → Facts m z items room → z' ≡ z → Got told belongs w m p m' y → items' ≡ p ∷ items → room' ≡ room → p < z.slots → Facts m' z' items' room'
  facts_took m m' z z' items items' room room' p y f same got is same_room inside =
      let v = after_taking m.0 p got.0 got.1 got.2 in
      let now : Facts (v, (p, Some y) ∷ m.1) z (p ∷ items) room = (
        f.0,
        length-set m.0.hands p 1 ∙ f.1,
        ap (λ (k : ℕ). 8 * (z.slots + k) + 24) got.5 ∙ f.2,
        ap (λ (l : List ℕ). p ∷ l) f.3,
        took_one items m.0.hands p f.4 (omega (arith, f.1)) got.4,
        put_once m.0.hands p 1 (omega (arith, f.1)) (omega arith) f.5,
        f.6,
        length-set m.0.events_when_got p got.1 ∙ f.7,
      ) in
      subst (λ (k : TableId × Sat T × List ℕ × ℕ). Facts k.1 k.0 k.2 k.3) (λ i. (sym same i, sym got.3 i, sym is i, sym same_room i)) now

pub zeros : (n i : ℕ) → get_or {A = ℕ} (replicate n 0) i 0 ≡ 0
zeros zero i = refl
zeros (suc n) zero = refl
zeros (suc n) (suc i) = zeros n i

no_slots : {T : Type 0} (c : Slots T) → ((p : ℕ) → total (only p) (numbers c) ≡ 0) → c ≡ []
no_slots [] h = refl
no_slots (x ∷ xs) h = absurd (omega (arith, h x.0, only_yes x.0))

pub empty_handed : {T : Type 0} (m : Sat T) (z : TableId) (items : List ℕ) (room : ℕ) → Facts m z items room → HoldsNothing m.0 → m.1 ≡ []
empty_handed m z items room f nothing = no_slots m.1 (λ p. ap (total (only p)) f.3 ∙ (f.4 p ∙ nothing p))
