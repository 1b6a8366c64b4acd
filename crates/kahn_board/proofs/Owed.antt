-- The steps that give an instance up, as a seat's call owes them.
use Rattle.kahn_board.proofs.Common.{◌≡◌, ℕ, ◌+◌, ◌*◌, ◌^◌, ◌<◌, eqb, ◌∷◌, arith, sym, refl, ap, ◌∙◌, subst, Option, Some, none, either, rest, step, Allows, Summary, TellsWait, TellsEnd, Wires, Deal, Whole, ready, over, word_code, Sat, IsIn, set_down, parked_or_not, first_of, publishes, IsFirstSlot, IsSameSeat, KeepsAll, Leaves, MayLeave, OwesFew, wired, Board, Seat, belongs as belong}
use Rattle.kahn_board.proofs.{Steps.sets_down, Steps.parks, Steps.publishing, Seconds.Fit, Counting.inside_of, Placed.placed, Seats.at_front}
use mathlib.Core.Option as maybe

module _ {T : Type 0} (told : T → Option Summary) (belongs : ℕ → T → Type 0) (w : Wires) where
  -- a seat of this board, with the cell y of the instance p first
  pub record Up (m : Sat T) (p : ℕ) (y : T) : Type 0 where
    pub fit : Fit w m
    pub is : m ≡ (m.0, (p, Some y) ∷ rest m.1)
    pub is_in : IsIn m.0 p
    pub inside : p < w.instances
    pub leaves : Leaves told belongs w m.0 p y
    pub few : m.0.down < 2 ^ 32

  refit : (m : Sat T) (p : ℕ) (y : T) → Up m p y → Fit w (m.0, (p, Some y) ∷ rest m.1)
  refit m p y u = subst (Fit w) u.is u.fit

module _ {T : Type 0} (told : T → Option Summary) (belongs : ℕ → T → Type 0) (w : Wires) (d : Deal) where
  pub readies : (n id : ℕ) (m : Sat T) (p p' : ℕ) (y : T) (new : ℕ) → Up told belongs w m p y → p' ≡ p → new ≡ 0 → Allows (Whole told belongs w d) n id m (8 * p) (λ _. new) (λ _. set_down told w p' (step n (8 * p) new 0 none) m new)
  readies n id m p p' y new u same is = subst (λ (k : Sat T × ℕ). Allows (Whole told belongs w d) n id k.0 (8 * p) (λ _. new) (λ _. set_down told w k.1 (step n (8 * p) new 0 none) k.0 new)) (λ i. (sym u.is i, sym same i))
      (sets_down told belongs w d n id m.0 (rest m.1) p y ready new (refit told belongs w m p y u) u.inside u.is_in is (λ j. refl) (λ c. refl) (y, refl) (λ e. absurd (omega (arith, ap word_code e))) (omega arith) u.leaves u.few)

  pub ends : (n id : ℕ) (m : Sat T) (p p' : ℕ) (y : T) (new : ℕ) → Up told belongs w m p y → p' ≡ p → new ≡ 2 → TellsEnd (told y) → Allows (Whole told belongs w d) n id m (8 * p) (λ _. new) (λ _. set_down told w p' (step n (8 * p) new 0 none) m new)
  ends n id m p p' y new u same is told_end = subst (λ (k : Sat T × ℕ). Allows (Whole told belongs w d) n id k.0 (8 * p) (λ _. new) (λ _. set_down told w k.1 (step n (8 * p) new 0 none) k.0 new)) (λ i. (sym u.is i, sym same i))
      (sets_down told belongs w d n id m.0 (rest m.1) p y over new (refit told belongs w m p y u) u.inside u.is_in is (λ j. refl) (λ c. refl) (y, refl) (λ _. told_end) (omega arith) u.leaves u.few)

  pub parks_at : (n id : ℕ) (m : Sat T) (p : ℕ) (y : T) (c i taken old new : ℕ) (said : maybe.Option (Option T)) → Up told belongs w m p y → i ≡ 8 * (w.instances + c) → c < w.channels → w.reader c ≡ Some p → old ≡ 2 * taken → new ≡ 2 * taken + 1 → TellsWait (told y) c taken
      → Allows (Whole told belongs w d) n id m i (λ z. either (eqb z old) new z) (parked_or_not told w (first_of m.1) (step n i old new said) m)
  parks_at n id m p y c i taken old new said u at near reads olds news waits = subst (λ (k : Sat T). Allows (Whole told belongs w d) n id k i (λ z. either (eqb z old) new z) (parked_or_not told w (first_of k.1) (step n i old new said) k)) (sym u.is)
      (parks told belongs w d n id m.0 (rest m.1) p y c i taken old new said (refit told belongs w m p y u) u.inside u.is_in at near reads olds news waits u.leaves u.few)

  pub publishes_at : (n id : ℕ) (m : Sat T) (c i c' q count new : ℕ) → Fit w m → i ≡ 8 * (w.instances + c) → c' ≡ c → c < w.channels → w.writer c ≡ Some q → q < w.instances → IsIn m.0 q → ((p : ℕ) → w.reader c ≡ Some p → p < w.instances) → new ≡ 2 * count
      → Allows (Whole told belongs w d) n id m i (λ _. new) (publishes told belongs w c' (step n i new 0 none) m)
  publishes_at n id m c i c' q count new f at same near writes writer_in is_in reader_in news = subst (λ (k : ℕ). Allows (Whole told belongs w d) n id m i (λ _. new) (publishes told belongs w k (step n i new 0 none) m)) (sym same)
      (publishing told belongs w d n id m c i q count new f at near writes writer_in is_in reader_in news)

-- a seat that may leave the instance p, once the slot of p comes first
module _ {T : Type 0} (told : T → Option Summary) (after : T → T → Type 0) (b : Board T) where
  pub brought : (s t : Seat T) (p : ℕ) (so : T → Type 0) → s.seat.table_id ≡ b.table.shared.table_id → (h : MayLeave told after b.table.shared.key s p so) → OwesFew s.seat.me.0
      → IsSameSeat s t × (t.seat.me.0 ≡ s.seat.me.0) → IsFirstSlot t p → KeepsAll s t → Up told (belong after b.table.shared.key) (wired b.table.shared.key) t.seat.me p h.1.0
  brought s t p so at h few same first keeps = let fits = placed b t (same.0.0 ∙ at) in let is_in = subst (λ v. IsIn v p) (sym same.1) h.0 in record {
    fit = fits;
    is = at_front t.seat.me t.seat.table_id t.held.items _ p h.1.0 t.facts first (keeps p _ h.1.1);
    is_in = is_in;
    inside = (let near = inside_of t.seat.me.0.hands p (omega (arith, is_in)) in omega (arith, fits.hands_long));
    leaves = subst (λ v. Leaves told (belong after b.table.shared.key) (wired b.table.shared.key) v p h.1.0) (sym same.1) h.1.2;
    few = omega (arith, ap (λ v. v.down) same.1, few);
  }
