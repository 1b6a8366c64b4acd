-- Chains of waits: each has one end.
use Rattle.kahn_chain.proofs.Common.{◌≡◌, ℕ, ◌⊎◌, inl, inr, ⊎_elim, List, Some, refl, sym, subst, ◌∙◌, ap, ap₂, arith, slice_get, Schema, Given, Written, channel_source, Awaits, Leads, stays, onward, LeadsOn, IsLeastOfRing, IsNoWait, IsCause, Standing, Cause, Input, Stopped, Ring}
use Rattle.kahn_chain.specs.declared.reason.Standing.TheVariants.{Ended, Waits, Faulted, More}

same_wait : (c d : ℕ) → Some (Waits c) ≡ Some (Waits d) → c ≡ d
same_wait c d e = cc

same_writer : (w v : ℕ) → Written w ≡ Written v → w ≡ v
same_writer w v e = cc

same_some : (s t : Standing) → Some s ≡ Some t → s ≡ t
same_some s t e = cc

pub no_wait : (s : Standing) → ((c : ℕ) → s ≡ Waits c → ⊥) → IsNoWait s
no_wait (Waits c) h = h c refl
no_wait _ h = tt

-- nothing is behind z
abbrev pub Halts : Schema → List Standing → ℕ → Type 0
Halts N ss z = (c w : ℕ) → Awaits N ss z c w → ⊥

module _ (N : Schema) (ss : List Standing) where
  pub then : (p z y : ℕ) → Leads N ss p z → Leads N ss z y → Leads N ss p y
  then p z y stays h = h
  then p z y (onward {w = w} a k) h = onward a (then w z y k h)

  pub one_on : (q z c w : ℕ) → LeadsOn N ss q z → Awaits N ss z c w → LeadsOn N ss q w
  one_on q z c w h a = (h.0, h.1, h.2, then h.1 z w h.3 (onward a stays))

  pub one_next : (p c w d v : ℕ) → Awaits N ss p c w → Awaits N ss p d v → w ≡ v
  one_next p c w d v a b =
      let e : c ≡ d = same_wait c d (sym a.0 ∙ b.0) in
      same_writer w v (sym a.1 ∙ (ap (channel_source N) e ∙ b.1))

  -- of two on one chain the one leads to the other
  meet : (p z y : ℕ) → Leads N ss p z → Leads N ss p y → Leads N ss z y ⊎ Leads N ss y z
  meet p z y stays k = inl k
  meet p z y (onward {c = c} {w = w} a h) stays = inr (onward a h)
  meet p z y (onward {c = c} {w = w} a h) (onward {c = d} {w = v} b k) =
      meet w z y h (subst (λ x. Leads N ss x y) (one_next p d v c w b a) k)

  round : (w y c : ℕ) → Leads N ss w y → Awaits N ss y c w → LeadsOn N ss w w
  round w y c stays a = (c, w, a, stays)
  round w y c (onward {c = d} {w = v} b k) a = (d, v, b, then v y w k (onward a stays))

  -- where a ring leads, it leads back from
  pub back : (y z : ℕ) → LeadsOn N ss y y → Leads N ss y z → Leads N ss z y
  back y z r stays = stays
  back y z r (onward {c = c} {w = w} a k) =
      let h : Leads N ss w y = subst (λ x. Leads N ss x y) (one_next y r.0 r.1 c w r.2 a) r.3 in
      then z w y (back w z (round w y c h a) k) h

  pub on_ring : (y z : ℕ) → LeadsOn N ss y y → Leads N ss y z → LeadsOn N ss z z
  on_ring y z r stays = r
  on_ring y z r (onward {c = c} {w = w} a k) =
      on_ring w z (round w y c (subst (λ x. Leads N ss x y) (one_next y r.0 r.1 c w r.2 a) r.3) a) k

  stays_there : (z y : ℕ) → Halts N ss z → Leads N ss z y → z ≡ y
  stays_there z y h stays = refl
  stays_there z y h (onward {c = c} {w = w} a k) = absurd (h c w a)

  pub input_halts : (z c : ℕ) → slice_get ss z ≡ Some (Waits c) → channel_source N c ≡ Given → Halts N ss z
  input_halts z c e g d w a =
      let same : c ≡ d = same_wait c d (sym e ∙ a.0) in
      let bad : Given ≡ Written w = sym g ∙ (ap (channel_source N) same ∙ a.1) in
      absurd cc

  waits_not : (s : Standing) (c : ℕ) → IsNoWait s → s ≡ Waits c → ⊥
  waits_not s c fixed e = subst IsNoWait e fixed

  pub stopped_halts : (z : ℕ) (s : Standing) → slice_get ss z ≡ Some s → IsNoWait s → Halts N ss z
  stopped_halts z s e fixed d w a = waits_not s d fixed (same_some s (Waits d) (sym e ∙ a.0))

  one_end : (p z y : ℕ) → Leads N ss p z → Halts N ss z → Leads N ss p y → Halts N ss y → z ≡ y
  one_end p z y h hz k ky =
      ⊎_elim (λ l. stays_there z y hz l) (λ l. sym (stays_there y z ky l)) (meet p z y h k)

  no_ring : (z : ℕ) → Halts N ss z → LeadsOn N ss z z → ⊥
  no_ring z h r = h r.0 r.1 r.2

  pub end_or_ring : (p z y : ℕ) → Leads N ss p z → Halts N ss z → Leads N ss p y → LeadsOn N ss y y → ⊥
  end_or_ring p z y h hz k r =
      ⊎_elim (λ l. no_ring z hz (subst (λ x. LeadsOn N ss x x) (sym (stays_there z y hz l)) r))
      (λ l. no_ring z hz (on_ring y z r l)) (meet p z y h k)

  one_ring : (p z y : ℕ) → Leads N ss p z → IsLeastOfRing N ss z → Leads N ss p y → IsLeastOfRing N ss y → z ≡ y
  one_ring p z y h a k b =
      let there : Leads N ss z y × Leads N ss y z =
      ⊎_elim (λ l. (l, back z y a.ring l)) (λ l. (back y z b.ring l, l)) (meet p z y h k) in
      omega (arith, a.least y there.0, b.least z there.1)

  halts_of : (p z : ℕ) (s : Standing) → IsCause N ss p (Stopped z s) → Halts N ss z
  halts_of p z s a = stopped_halts z s a.1 a.2

  pub one_cause : (p : ℕ) (a b : Cause) → IsCause N ss p a → IsCause N ss p b → a ≡ b
  one_cause p (Input z c) (Input y d) a b =
      let e : z ≡ y = one_end p z y a.0 (input_halts z c a.1 a.2) b.0 (input_halts y d b.1 b.2) in
      ap₂ Input e (same_wait c d (sym a.1 ∙ (ap (slice_get ss) e ∙ b.1)))
  one_cause p (Input z c) (Stopped y s) a b =
      let e : z ≡ y = one_end p z y a.0 (input_halts z c a.1 a.2) b.0 (halts_of p y s b) in
      absurd (waits_not s c b.2 (same_some s (Waits c) (sym b.1 ∙ (ap (slice_get ss) (sym e) ∙ a.1))))
  one_cause p (Input z c) (Ring y) a b = absurd (end_or_ring p z y a.0 (input_halts z c a.1 a.2) b.0 b.1.ring)
  one_cause p (Stopped z s) (Input y d) a b =
      let e : z ≡ y = one_end p z y a.0 (halts_of p z s a) b.0 (input_halts y d b.1 b.2) in
      absurd (waits_not s d a.2 (same_some s (Waits d) (sym a.1 ∙ (ap (slice_get ss) e ∙ b.1))))
  one_cause p (Stopped z s) (Stopped y t) a b =
      let e : z ≡ y = one_end p z y a.0 (halts_of p z s a) b.0 (halts_of p y t b) in
      ap₂ Stopped e (same_some s t (sym a.1 ∙ (ap (slice_get ss) e ∙ b.1)))
  one_cause p (Stopped z s) (Ring y) a b = absurd (end_or_ring p z y a.0 (halts_of p z s a) b.0 b.1.ring)
  one_cause p (Ring z) (Input y d) a b = absurd (end_or_ring p y z b.0 (input_halts y d b.1 b.2) a.0 a.1.ring)
  one_cause p (Ring z) (Stopped y t) a b = absurd (end_or_ring p y z b.0 (halts_of p y t b) a.0 a.1.ring)
  one_cause p (Ring z) (Ring y) a b = ap Ring (one_ring p z y a.0 a.1 b.0 b.1)
