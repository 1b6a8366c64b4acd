-- A seat that told a number and set down the reader that it woke.
use Rattle.kahn_board.proofs.Common.{◌≡◌, ◌≢◌, ℕ, ◌-◌, ◌<◌, [], ◌∷◌, ◌++◌, drop, get_or, set, inl, inr, sym, refl, ap, ◌∙◌, subst, arith, Option, Some, None, get_or-set_same, get_or-set_other, Summary, TellsEvents, events_past, Wires, Owed, Carries, Sat, IsIn, Got, after_taking, after_giving_up, after_waking, after_counting_up, SeatView, InTurn, HasPublished}
use Rattle.kahn_board.proofs.{Seconds.Fit, Woken.hand_again}

no_more : (t : Option Summary) (e k : ℕ) → TellsEvents t e → k ≡ e → events_past t k - k ≡ 0
no_more None e k tells is = omega arith
no_more (Some t) e k tells is = omega (arith, tells, is)

module _ {T : Type 0} (told : T → Option Summary) (belongs : ℕ → T → Type 0) (w : Wires) where
  pub passes : (m n k j : Sat T) (p c count r q : ℕ) (y : T) → Fit w m → Got told belongs w (after_waking m.0 c count r q, m.1) r n y → r < w.instances → k ≡ (after_counting_up n.0, n.1)
      → ((z : T) → Carries k.1 r (Some z) → j.0 ≡ after_giving_up k.0 r (told z) 0) → ((s : ℕ) (x : Option T) → s ≢ r → Carries k.1 s x → Carries j.1 s x)
      → IsIn m.0 p → p < w.instances → c < w.channels → w.writer c ≡ Some p
      → ((i l : ℕ) (x : Option T) → InTurn p i l x m → InTurn p i l x j) × HasPublished w p c count m.0 j.0 × (j.0.parts ≡ m.0.parts) × (j.0.raised ≡ m.0.raised)
  passes m n k j p c count r q y fit got reads is given kept mine inside near writes = let L = got.0 in let e = got.1 in let seen = got.2 in
      let N : Sat T = (after_taking (after_waking m.0 c count r q) r L e seen, (r, Some y) ∷ m.1) in
      let K : Sat T = (after_counting_up N.0, N.1) in
      let k_is : k ≡ K = is ∙ ap (λ (z : Sat T). (after_counting_up z.0, z.1)) got.3 in
      let out = given y (subst (λ (z : Sat T). Carries z.1 r (Some y)) (sym k_is) (inl refl)) in
      let J : SeatView = after_giving_up K.0 r (told y) 0 in
      let j_is : j.0 ≡ J = out ∙ ap (λ (z : Sat T). after_giving_up z.0 r (told y) 0) k_is in
      let apart : p ≢ r = (λ same. absurd (omega (arith, mine, got.4, ap (λ (z : ℕ). get_or m.0.hands z 0) same))) in
      let no_loose : events_past (told y) (get_or (set m.0.events_when_got r e) r 0) - get_or (set m.0.events_when_got r e) r 0 ≡ 0 = no_more (told y) e (get_or (set m.0.events_when_got r e) r 0) got.8 (get_or-set_same m.0.events_when_got r e 0 (omega (arith, fit.got_long, reads))) in
      let tells : HasPublished w p c count m.0 J = record {
        here = got.6 p c inside near mine writes ∙ get_or-set_same m.0.flushed c count 0 (omega (arith, fit.flushed_long, near));
        others = λ d ne below wrote. got.6 p d inside below mine wrote ∙ get_or-set_other m.0.flushed c d count 0 (λ f. ne f);
        events_when_got = get_or-set_other m.0.events_when_got r p e 0 (λ f. apart f);
        seen = got.9;
      } in
      let turn : (i l : ℕ) (x : Option T) → InTurn p i l x m → InTurn p i l x (J, j.1) = λ i l x t. record {
        mine = hand_again m.0.hands r p got.4 ∙ t.mine;
        alone = λ s ne. hand_again m.0.hands r s got.4 ∙ t.alone s ne;
        slot = kept p x apart (subst (λ (z : Sat T). Carries z.1 p x) (sym k_is) (inr t.slot));
        owed = ap (λ (l : Owed). drop 1 (l ++ (r, q) ∷ [])) t.owed;
        down = omega (arith, t.down);
        drawn = t.drawn;
        untold = omega (arith, no_loose, t.untold);
      } in (
        (λ i l x t. subst (λ (v : SeatView). InTurn p i l x (v, j.1)) (sym j_is) (turn i l x t)),
        subst (HasPublished w p c count m.0) (sym j_is) tells,
        ap (λ (v : SeatView). v.parts) j_is,
        ap (λ (v : SeatView). v.raised) j_is,
      )
