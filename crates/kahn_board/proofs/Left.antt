-- A seat that looks, and leaves.
use Rattle.kahn_board.proofs.Common.{◌≡◌, ◌≢◌, ℕ, suc, cond, List, [], ◌∷◌, Option, length, get_or, ap, sym, refl, ◌∙◌, arith, eq-eqb, subst, Summary, Terms, total, burden, after_looking, Looks, SeatView, Seat, RestsWith, IsBetweenTurns, IsSeatOf, ◌+◌, Sat, after_step, ◌*◌, Some, None, is_some, true≢false, false, Wires, Carries, Was, Claims, InTurn, Fits, IsBetween}
use Rattle.kahn_board.specs.{declared.seat.Look.Look, declared.seat.Look.TheVariants.Halted, declared.seat.Look.TheVariants.Quiet, declared.seat.Look.TheVariants.NoBudget, declared.seat.Look.TheVariants.Go}

module _ {T : Type 0} where
  -- it has what it had
  pub kept_turn : (p k l : ℕ) (x : Option T) (m n : Sat T) → n.0 ≡ after_step m.0 → ((q : ℕ) (z : Option T) → Carries m.1 q z → Carries n.1 q z) → InTurn p k l x m → InTurn p k l x n
  kept_turn p k l x m n is keeps t = subst (λ (v : SeatView). InTurn p k l x (v, n.1)) (sym is) record { mine = t.mine; alone = t.alone; slot = keeps p x t.slot; owed = t.owed; down = t.down; drawn = t.drawn; untold = t.untold }

  pub kept_fits : (told : T → Option Summary) (belongs : ℕ → T → Type 0) (w : Wires) (p : ℕ) (y : T) (m n : Sat T) → n.0 ≡ after_step m.0 → Fits told belongs w p y m.0 → Fits told belongs w p y n.0
  kept_fits told belongs w p y m n is f = subst (Fits told belongs w p y) (sym is) record { published = f.published; events = f.events; flushed = f.flushed; belonging = f.belonging }

  pub missed : (told : T → Option Summary) (after : T → T → Type 0) (key : Terms T) (s t : Seat T) (p : ℕ) (o : Option (Unit {0})) → Claims told after key s t p o → is_some o ≡ false
      → ((k : ℕ) → IsBetween k s → IsBetween k t) × ((r : ℕ) × (r ≢ 0) × Was told after key s s.seat.me.0 (8 * p) r)
  missed told after key s t p None c out = let e = c.1 in ((λ k rests. subst (λ (m : Sat T). RestsWith k m.0) (sym e.3) rests), (e.0, e.1, e.2))
  missed told after key s t p (Some u) c out = absurd (true≢false out)

module _ {T : Type 0} where
  -- nothing changed but how many steps it made, and that it is busy
  pub record Same (m n : Sat T) : Type 0 where
    pub stage : ℕ
    pub steps : ℕ
    pub is : n ≡ (record m.0 { stage = stage; steps = steps }, m.1)

  pub same_self : (m : Sat T) → Same m m
  same_self m = record { stage = m.0.stage; steps = m.0.steps; is = refl }

  same_noted : (m n k : Sat T) → Same m n → k ≡ (after_step n.0, n.1) → Same m k
  same_noted m n k s is = record { stage = 2; steps = s.steps + 1; is = is ∙ ap (λ (z : Sat T). (after_step z.0, z.1)) s.is }

  pub same_noted_twice : (m n k : Sat T) → Same m n → k ≡ (after_step (after_step n.0), n.1) → Same m k
  same_noted_twice m n k s is = same_noted m (after_step n.0, n.1) k (same_noted m n (after_step n.0, n.1) s refl) is

none_total : (l : List ℕ) → ((p : ℕ) → get_or l p 0 ≡ 0) → total (λ x. x) l ≡ 0
none_total [] h = refl
none_total (x ∷ xs) h = omega (arith, h 0, none_total xs (λ p. h (suc p)))

-- a seat that rests leaves
pub leaves_done : (v : SeatView) (seen : ℕ) → RestsWith 0 v → (after_looking v seen).stage ≡ 1
leaves_done v seen r = let none : burden v ≡ 0 = omega (arith, none_total v.hands r.0.0, r.0.1, ap length r.0.2, r.0.3) in
    ap (λ b. cond b 1 2) (eq-eqb (burden v) 0 none)

module _ {T : Type 0} (told : T → Option Summary) (after : T → T → Type 0) (key : Terms T) where
  -- it has left
  abbrev pub Left : Seat T → Seat T → Type 0
  Left s t = IsSeatOf s t × IsBetweenTurns t × (t.seat.me.0.stage ≡ 1)

  leaves : (s t : Seat T) (u : SeatView) → t.seat.table_id ≡ s.seat.table_id → t.seat.id ≡ s.seat.id → t.seat.me.0 ≡ u → u.parts ≡ s.seat.me.0.parts → u.raised ≡ s.seat.me.0.raised → RestsWith 0 u → u.stage ≡ 1 → Left s t
  leaves s t u table seat is parts raised rests stage = ((table, seat, ap (λ v. v.parts) is ∙ parts, ap (λ v. v.raised) is ∙ raised), subst (RestsWith 0) (sym is) rests, ap (λ v. v.stage) is ∙ stage)

  pub left : (s t : Seat T) (k : Look) → Looks told after key s t k → IsBetweenTurns s → k ≢ Go → Left s t
  left s t Halted l r ne = leaves s t _ l.0.0.0 l.0.0.1 (ap (λ m. m.0) l.0.1) refl refl r (leaves_done s.seat.me.0 2 r)
  left s t Quiet l r ne = leaves s t _ l.0.0.0 l.0.0.1 (ap (λ m. m.0) l.0.1) refl refl r (leaves_done s.seat.me.0 1 r)
  left s t NoBudget l r ne = leaves s t _ l.0.0.0 l.0.0.1 (ap (λ m. m.0) l.0.1) refl refl r (leaves_done s.seat.me.0 0 r)
  left s t Go l r ne = absurd (ne refl)
