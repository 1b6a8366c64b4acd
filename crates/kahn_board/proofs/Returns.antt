-- What a seat has once it gave an instance up.
use Rattle.kahn_board.proofs.Common.{◌≡◌, ℕ, arith, ◌*◌, ◌/◌, ◌%◌, ◌≢◌, List, ◌∷◌, inl, inr, sym, ap, ◌∙◌, subst, Option, Some, rest, step, none, Summary, TellsWait, Wires, Carries, Sat, after_giving_up, GaveUp, TheFirst, claimed, publishes, Got, after_waking, KeepsAll, Seat, same_Some}
use Rattle.kahn_board.proofs.Seats.{front_is}

carries_rest : {T : Type 0} (c : List (ℕ × Option T)) (p : ℕ) (x : Option T) (q : ℕ) (z : Option T) → q ≢ p → Carries ((p, x) ∷ c) q z → Carries c q z
carries_rest c p x q z ne (inl e) = absurd (ne (sym (ap (λ (k : ℕ × Option _). k.0) e)))
carries_rest c p x q z ne (inr h) = h

module _ {T : Type 0} (told : T → Option Summary) (w : Wires) where
  -- of a seat s, the same t once the slot of p comes first, and what t has then
  pub gave_up : (s t : Seat T) (n : Sat T) (p more : ℕ) → t.seat.me.0 ≡ s.seat.me.0 → KeepsAll s t → (y : T) × TheFirst told w t.seat.me p y × GaveUp told w t.seat.me p more n y
      → ((y : T) → Carries s.seat.me.1 p (Some y) → n.0 ≡ after_giving_up s.seat.me.0 p (told y) more) × ((q : ℕ) (x : Option T) → q ≢ p → Carries s.seat.me.1 q x → Carries n.1 q x)
  gave_up s t n p more same keeps g = let y = g.0 in let m = t.seat.me in (
    (λ u has. let e : y ≡ u = same_Some y u (front_is m t.seat.table_id t.held.items _ p (Some y) (Some u) t.facts g.1 (keeps p (Some u) has)) in ap (λ (k : Sat T). k.0) g.2 ∙ λ i. after_giving_up (same i) p (told (e i)) more),
    (λ q x ne has. subst (λ (k : Sat T). Carries k.1 q x) (sym g.2) (carries_rest (rest m.1) p (Some y) q x ne (subst (λ (l : List (ℕ × Option T)). Carries l q x) g.1 (keeps q x has)))),
  )

module _ {T : Type 0} (told : T → Option Summary) (belongs : ℕ → T → Type 0) (w : Wires) where
  -- what is told of the channel c' is told of c
  pub woke : (first : ℕ) (m n : Sat T) (c' c r reader count : ℕ) → c' ≡ c → publishes told belongs w c' (step 0 0 first 0 none) m r n → r % 2 ≡ 1 → first ≡ 2 * count → w.reader c ≡ Some reader
      → (q : ℕ) × (y : T) × (w.writer c ≡ Some q) × TellsWait (told y) c (r / 2) × Got told belongs w (after_waking m.0 c count reader q, m.1) reader n y
  woke first m n c' c r reader count same play odd twice reads = let t = (subst (λ (k : ℕ). publishes told belongs w k (step 0 0 first 0 none) m r n) same play).1 odd in
      let half_is : first / 2 ≡ count = omega arith in
      let got = subst (λ (k : ℕ). Got told belongs w (after_waking m.0 c k t.0 t.1, m.1) t.0 n t.2) half_is t.6 in
      (t.1, t.2, t.4, t.5, subst (λ (k : ℕ). Got told belongs w (after_waking m.0 c count k t.1, m.1) k n t.2) (same_Some t.0 reader (sym t.3 ∙ reads)) got)

-- what is told of the instance whose word it was is told of p
pub claimed_here : {T : Type 0} (told : T → Option Summary) (belongs : ℕ → T → Type 0) (w : Wires) (m n : Sat T) (p r : ℕ) → claimed told belongs w (8 * p / 8) (step 0 0 0 0 none) m r n → claimed told belongs w p (step 0 0 0 0 none) m r n
claimed_here told belongs w m n p r h = subst (λ (k : ℕ). claimed told belongs w k (step 0 0 0 0 none) m r n) (omega arith) h
