-- How far a list is read.
use Rattle.kahn_syntax.proofs.Common.{◌≡◌, ℕ, ◌+◌, ◌≤◌, ◌<◌, List, [], ◌∷◌, ◌++◌, length, Bool, true, false, cond, Option, Some, None, refl, sym, ap, ◌∙◌, arith, ⊎_elim, ◌⊎◌, length-append, nat_le, nat_tests, Terminal, Part, levels, may_end, step, Whole, Refuses, TooFar, onward, fate}
use Rattle.kahn_syntax.proofs.{Unique.le_or, Steps.go, Viable.Fits, Viable.fits_some, Viable.fits_nothing, Viable.further}

le_test_false : (a b : ℕ) → b < a → nat_le a b ≡ false
le_test_false a b h = grind (arith, nat_tests)

pub go_none : (m : ℕ) (s : List Part) (k : Terminal) (ks : List Terminal) → step s k ≡ None → fate m s (k ∷ ks) ≡ Refuses (may_end s) (length ks + 1)
go_none m s k ks e = ap (onward m (may_end s) (length ks + 1) (λ (u : List Part). fate m u ks)) e

pub go_far : (m : ℕ) (s t : List Part) (k : Terminal) (ks : List Terminal) → step s k ≡ Some t → m < levels t → fate m s (k ∷ ks) ≡ TooFar (length ks + 1)
go_far m s t k ks e h =
    ap (onward m (may_end s) (length ks + 1) (λ (u : List Part). fate m u ks)) e
    ∙ ap (λ b. cond b (fate m t ks) (TooFar (length ks + 1))) (le_test_false (levels t) m h)

-- what one lexeme does
data Moves (m : ℕ) (s : List Part) (k : Terminal) : Type 0 where
  stops_here : step s k ≡ None → Moves m s k
  goes : (t : List Part) → step s k ≡ Some t → levels t ≤ m → Moves m s k
  passes : (t : List Part) → step s k ≡ Some t → m < levels t → Moves m s k

moves_by : (m : ℕ) (s : List Part) (k : Terminal) (o : Option (List Part)) → step s k ≡ o → Moves m s k
moves_by m s k None e = stops_here e
moves_by m s k (Some t) e = ⊎_elim (λ h. goes t e h) (λ h. passes t e h) (le_or (levels t) m)

moves : (m : ℕ) (s : List Part) (k : Terminal) → Moves m s k
moves m s k = moves_by m s k (step s k) refl

refuses_same : (a b : Bool) (x y : ℕ) → Refuses a x ≡ Refuses b y → (a ≡ b) × (x ≡ y)
refuses_same a b x y e = (cc, cc)

far_same : (x y : ℕ) → TooFar x ≡ TooFar y → x ≡ y
far_same x y e = cc

far_refuses : (a : Bool) (x y : ℕ) → TooFar x ≡ Refuses a y → ⊥
far_refuses a x y e = cc

pub whole_refuses : (a : Bool) (x : ℕ) → Whole ≡ Refuses a x → ⊥
whole_refuses a x e = cc

pub whole_far : (x : ℕ) → Whole ≡ TooFar x → ⊥
whole_far x e = cc

-- no more is left than there was
pub refuses_left : (m : ℕ) (ks : List Terminal) (s : List Part) (b : Bool) (n : ℕ) → fate m s ks ≡ Refuses b n → n ≤ length ks
refuses_left m [] s b n e = at_end (may_end s) e
  where
    at_end : (a : Bool) → cond a Whole (Refuses false 0) ≡ Refuses b n → n ≤ 0
    at_end true f = absurd (whole_refuses b n f)
    at_end false f = omega (arith, (refuses_same false b 0 n f).1)
refuses_left m (k ∷ ks) s b n e = by_move (λ t g. refuses_left m ks t b n g) (moves m s k)
  where
    by_move : ((t : List Part) → fate m t ks ≡ Refuses b n → n ≤ length ks) → Moves m s k → n ≤ length (k ∷ ks)
    by_move again (stops_here f) = omega (arith, (refuses_same (may_end s) b (length ks + 1) n (sym (go_none m s k ks f) ∙ e)).1)
    by_move again (goes t f h) = omega (arith, again t (sym (go m s t k ks f h) ∙ e))
    by_move again (passes t f h) = absurd (far_refuses b (length ks + 1) n (sym (go_far m s t k ks f h) ∙ e))

pub far_left : (m : ℕ) (ks : List Terminal) (s : List Part) (n : ℕ) → fate m s ks ≡ TooFar n → (n ≤ length ks) × (0 < n)
far_left m [] s n e = absurd (at_end (may_end s) e)
  where
    at_end : (a : Bool) → cond a Whole (Refuses false 0) ≡ TooFar n → ⊥
    at_end true f = whole_far n f
    at_end false f = far_refuses false n 0 (sym f)
far_left m (k ∷ ks) s n e = by_move (λ t g. far_left m ks t n g) (moves m s k)
  where
    by_move : ((t : List Part) → fate m t ks ≡ TooFar n → (n ≤ length ks) × (0 < n)) → Moves m s k → (n ≤ length (k ∷ ks)) × (0 < n)
    by_move again (stops_here f) = absurd (far_refuses (may_end s) n (length ks + 1) (sym e ∙ go_none m s k ks f))
    by_move again (goes t f h) = let r = again t (sym (go m s t k ks f h) ∙ e) in (omega (arith, r.0), r.1)
    by_move again (passes t f h) = let r = far_same (length ks + 1) n (sym (go_far m s t k ks f h) ∙ e) in (omega arith, omega arith)

-- x is refused after these
pub record Stuck (m : ℕ) (s : List Part) (before : List Terminal) (x : Terminal) (b : Bool) : Type 0 where
  pub begins : (c : List Terminal) × Fits m s (before ++ c)
  pub stuck : (n : ℕ) → m ≤ n → (c : List Terminal) → fate n s (before ++ x ∷ c) ≡ Refuses b (length c + 1)
  pub whole : b ≡ true → Fits m s before
  pub part : b ≡ false → (n : ℕ) → m ≤ n → fate n s before ≡ Refuses false 0

pub stuck_at : (m : ℕ) (before after : List Terminal) (x : Terminal) (s : List Part) (b : Bool) → levels s ≤ m →
    fate m s (before ++ x ∷ after) ≡ Refuses b (length after + 1) → Stuck m s before x b
stuck_at m [] after x s b l e = by_move (moves m s x)
  where
    by_move : Moves m s x → Stuck m s [] x b
    by_move (stops_here f) =
        let same = (refuses_same (may_end s) b (length after + 1) (length after + 1) (sym (go_none m s x after f) ∙ e)).0 in
        record {
          begins = fits_some m s l;
          stuck = λ n h c. go_none n s x c f ∙ ap (λ a. Refuses a (length c + 1)) same;
          whole = λ y. fits_nothing m s l (same ∙ y);
          part = λ y n h. ap (λ a. cond a Whole (Refuses false 0)) (same ∙ y);
        }
    by_move (goes t f h) = absurd (omega (arith, refuses_left m after t b (length after + 1) (sym (go m s t x after f h) ∙ e)))
    by_move (passes t f h) = absurd (far_refuses b _ _ (sym (go_far m s t x after f h) ∙ e))
stuck_at m (k ∷ before) after x s b l e = by_move (λ t h g. stuck_at m before after x t b h g) (moves m s k)
  where
    by_move : ((t : List Part) → levels t ≤ m → fate m t (before ++ x ∷ after) ≡ Refuses b (length after + 1) → Stuck m t before x b) → Moves m s k → Stuck m s (k ∷ before) x b
    by_move again (stops_here f) =
        absurd (omega (arith, (refuses_same (may_end s) b _ _ (sym (go_none m s k (before ++ x ∷ after) f) ∙ e)).1, length-append before (x ∷ after)))
    by_move again (goes t f h) =
        let r = again t h (sym (go m s t k (before ++ x ∷ after) f h) ∙ e) in
        record {
          begins = (r.begins.0, further m s t k _ l f r.begins.1);
          stuck = λ n g c. go n s t k (before ++ x ∷ c) f (omega arith) ∙ r.stuck n g c;
          whole = λ y. further m s t k before l f (r.whole y);
          part = λ y n g. go n s t k before f (omega arith) ∙ r.part y n g;
        }
    by_move again (passes t f h) = absurd (far_refuses b _ _ (sym (go_far m s t k (before ++ x ∷ after) f h) ∙ e))

-- the list ends too early
pub record Short (m : ℕ) (s : List Part) (ks : List Terminal) : Type 0 where
  pub begins : (c : List Terminal) × Fits m s (ks ++ c)
  pub part : (n : ℕ) → m ≤ n → fate n s ks ≡ Refuses false 0

pub short_at : (m : ℕ) (ks : List Terminal) (s : List Part) (b : Bool) → levels s ≤ m → fate m s ks ≡ Refuses b 0 → Short m s ks
short_at m [] s b l e = record { begins = fits_some m s l; part = λ n h. at_end (may_end s) e }
  where
    at_end : (a : Bool) → cond a Whole (Refuses false 0) ≡ Refuses b 0 → cond a Whole (Refuses false 0) ≡ Refuses false 0
    at_end true f = absurd (whole_refuses b 0 f)
    at_end false f = refl
short_at m (k ∷ ks) s b l e = by_move (λ t h g. short_at m ks t b h g) (moves m s k)
  where
    by_move : ((t : List Part) → levels t ≤ m → fate m t ks ≡ Refuses b 0 → Short m t ks) → Moves m s k → Short m s (k ∷ ks)
    by_move again (stops_here f) = absurd (omega (arith, (refuses_same (may_end s) b (length ks + 1) 0 (sym (go_none m s k ks f) ∙ e)).1))
    by_move again (goes t f h) =
        let r = again t h (sym (go m s t k ks f h) ∙ e) in
        record {
          begins = (r.begins.0, further m s t k _ l f r.begins.1);
          part = λ n g. go n s t k ks f (omega arith) ∙ r.part n g;
        }
    by_move again (passes t f h) = absurd (far_refuses b _ _ (sym (go_far m s t k ks f h) ∙ e))

-- x opens one level too many after these
pub record Deep (m : ℕ) (s : List Part) (before : List Terminal) (x : Terminal) : Type 0 where
  pub begins : (c : List Terminal) × Fits m s (before ++ c)
  pub beyond : (n : ℕ) × (m ≤ n) × (c : List Terminal) × Fits n s (before ++ x ∷ c)
  pub far : (c : List Terminal) → fate m s (before ++ x ∷ c) ≡ TooFar (length c + 1)

pub deep_at : (m : ℕ) (before after : List Terminal) (x : Terminal) (s : List Part) → levels s ≤ m →
    fate m s (before ++ x ∷ after) ≡ TooFar (length after + 1) → Deep m s before x
deep_at m [] after x s l e = by_move (moves m s x)
  where
    by_move : Moves m s x → Deep m s [] x
    by_move (stops_here f) = absurd (far_refuses (may_end s) _ _ (sym e ∙ go_none m s x after f))
    by_move (goes t f h) = absurd (omega (arith, (far_left m after t (length after + 1) (sym (go m s t x after f h) ∙ e)).0))
    by_move (passes t f h) =
        let more = fits_some (levels t) t (omega arith) in
        record {
          begins = fits_some m s l;
          beyond = (levels t, omega arith, more.0, further (levels t) s t x more.0 (omega arith) f more.1);
          far = λ c. go_far m s t x c f h;
        }
deep_at m (k ∷ before) after x s l e = by_move (λ t h g. deep_at m before after x t h g) (moves m s k)
  where
    by_move : ((t : List Part) → levels t ≤ m → fate m t (before ++ x ∷ after) ≡ TooFar (length after + 1) → Deep m t before x) → Moves m s k → Deep m s (k ∷ before) x
    by_move again (stops_here f) = absurd (far_refuses (may_end s) _ _ (sym e ∙ go_none m s k (before ++ x ∷ after) f))
    by_move again (goes t f h) =
        let r = again t h (sym (go m s t k (before ++ x ∷ after) f h) ∙ e) in
        record {
          begins = (r.begins.0, further m s t k _ l f r.begins.1);
          beyond = (r.beyond.0, r.beyond.1, r.beyond.2, further r.beyond.0 s t k _ (omega (arith, r.beyond.1)) f r.beyond.3);
          far = λ c. go m s t k (before ++ x ∷ c) f h ∙ r.far c;
        }
    by_move again (passes t f h) =
        absurd (omega (arith, far_same _ _ (sym (go_far m s t k (before ++ x ∷ after) f h) ∙ e), length-append before (x ∷ after)))
