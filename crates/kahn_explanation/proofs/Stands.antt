-- Ends whose causes are final are for good: the instances on the chain are stuck.
use Rattle.kahn_explanation.proofs.Common.{◌≡◌, ℕ, ◌==◌, ◌⊎◌, inl, inr, ⊎_elim, List, [], ◌∷◌, ◌++◌, get_or, Bool, true, Option, Some, None, refl, sym, ap, subst, ◌∙◌, eq-eqb, eqb-true, option_map, Schema, Reads, Written, actual_at, instance_at, channel_source, ScriptOutcome as Came, Dry, Cut, Store, Inputs, Histories, ending, exec_at, AreInputsExtended, Awaits, Leads, stays, onward, LeadsOn, standing_of, stands, Standing, Input, Stopped, Ring, end_of, waiting, HasEndAt, IsDryOn, IsEnd, IsOutcome, IsRight, IsWaiting, Answer, Verdict, Memory, IsEndedOrFaulted, StayForGood, standings_of, AreStuck}
use Rattle.std.specs.List.{list_any, slice_get}
use Rattle.std.proofs.lemmas.{Bool.or_cases, Bool.or_left, Bool.or_right, List.Folds.list_any-append}
use Rattle.std.proofs.lemmas.Option.{slice_get-map, get_or_from_slice_get}
use Rattle.kahn_streams.specs.Solution as net
use Rattle.kahn_chain.specs.declared.reason.Standing.TheVariants as S
use Rattle.kahn_streams.specs.{declared.answer.End.End, declared.answer.Outcome.Outcome, declared.answer.Outcome.TheVariants.Ended, declared.answer.Outcome.TheVariants.Waits, declared.answer.Outcome.TheVariants.Faulted, declared.answer.Outcome.TheVariants.More}
use Rattle.kahn_explanation.proofs.Good.{stays_so}

-- ---- lists of instances

abbrev is_in : List ℕ → ℕ → Bool
is_in xs q = list_any (λ x. x == q) xs

at_head : (x : ℕ) (xs : List ℕ) → is_in (x ∷ xs) x ≡ true
at_head x xs = or_left (x == x) (is_in xs x) (eq-eqb x x refl)

behind : (x : ℕ) (xs : List ℕ) (q : ℕ) → is_in xs q ≡ true → is_in (x ∷ xs) q ≡ true
behind x xs q h = or_right (x == q) (is_in xs q) h

parted : (x : ℕ) (xs : List ℕ) (q : ℕ) → is_in (x ∷ xs) q ≡ true → (q ≡ x) ⊎ (is_in xs q ≡ true)
parted x xs q h = ⊎_elim (λ e. inl (sym (eqb-true x q e))) inr (or_cases (x == q) (is_in xs q) h)

on_left : (xs ys : List ℕ) (q : ℕ) → is_in xs q ≡ true → is_in (xs ++ ys) q ≡ true
on_left xs ys q h = list_any-append (λ x. x == q) xs ys ∙ or_left (is_in xs q) (is_in ys q) h

on_right : (xs ys : List ℕ) (q : ℕ) → is_in ys q ≡ true → is_in (xs ++ ys) q ≡ true
on_right xs ys q h = list_any-append (λ x. x == q) xs ys ∙ or_right (is_in xs q) (is_in ys q) h

on_either : (xs ys : List ℕ) (q : ℕ) → is_in (xs ++ ys) q ≡ true → (is_in xs q ≡ true) ⊎ (is_in ys q ≡ true)
on_either xs ys q h = or_cases (is_in xs q) (is_in ys q) (sym (list_any-append (λ x. x == q) xs ys) ∙ h)

-- ---- chains

module _ (N : Schema) (ss : List Standing) where
  abbrev nodes : (p z : ℕ) → Leads N ss p z → List ℕ
  nodes p z stays = p ∷ []
  nodes p z (onward {w = w} a h) = p ∷ nodes w z h

  first : (p z : ℕ) (h : Leads N ss p z) → is_in (nodes p z h) p ≡ true
  first p z stays = at_head p []
  first p z (onward {w = w} a h) = at_head p (nodes w z h)

  -- q waits on one of these
  abbrev IsOn : List ℕ → ℕ → Type 0
  IsOn L q = (c w : ℕ) × Awaits N ss q c w × (is_in L w ≡ true)

  wider : (L M : List ℕ) (q : ℕ) → ((w : ℕ) → is_in L w ≡ true → is_in M w ≡ true) → IsOn L q → IsOn M q
  wider L M q f on = (on.0, on.1, on.2, f on.1 on.3)

  closed : (p z : ℕ) (h : Leads N ss p z) (q : ℕ) → is_in (nodes p z h) q ≡ true → (q ≡ z) ⊎ IsOn (nodes p z h) q
  closed p z stays q k = ⊎_elim inl (λ bad. absurd cc) (parted p [] q k)
  closed p z (onward {c = c} {w = w} a h) q k =
      ⊎_elim (λ e. inr (c, w, subst (λ x. Awaits N ss x c w) (sym e) a, behind p (nodes w z h) w (first w z h)))
      (λ l. ⊎_elim inl (λ on. inr (wider (nodes w z h) (p ∷ nodes w z h) q (behind p (nodes w z h)) on)) (closed w z h q l))
      (parted p (nodes w z h) q k)

  abbrev IsOut : ℕ → Type 0
  IsOut q = (s : Standing) × (slice_get ss q ≡ Some s) × IsEndedOrFaulted s

  -- each of these is over, or waits on one of them
  abbrev IsClosed : List ℕ → Type 0
  IsClosed L = (q : ℕ) → is_in L q ≡ true → IsOut q ⊎ IsOn L q

  closed_end : (p z : ℕ) (s : Standing) (h : Leads N ss p z) → slice_get ss z ≡ Some s → IsEndedOrFaulted s → IsClosed (nodes p z h)
  closed_end p z s h e over q k = ⊎_elim (λ same. inl (s, ap (slice_get ss) same ∙ e, over)) inr (closed p z h q k)

  closed_ring : (p z : ℕ) (h : Leads N ss p z) (r : LeadsOn N ss z z) → IsClosed (nodes p z h ++ nodes r.1 z r.3)
  closed_ring p z h r q k = ⊎_elim left right (on_either (nodes p z h) (nodes r.1 z r.3) q k)
    where
      L : List ℕ
      L = nodes p z h

      M : List ℕ
      M = nodes r.1 z r.3

      round : q ≡ z → IsOut q ⊎ IsOn (nodes p z h ++ nodes r.1 z r.3) q
      round e = inr (r.0, r.1, subst (λ x. Awaits N ss x r.0 r.1) (sym e) r.2, on_right (nodes p z h) (nodes r.1 z r.3) r.1 (first r.1 z r.3))

      left : is_in (nodes p z h) q ≡ true → IsOut q ⊎ IsOn (nodes p z h ++ nodes r.1 z r.3) q
      left l = ⊎_elim round (λ on. inr (wider (nodes p z h) (nodes p z h ++ nodes r.1 z r.3) q (on_left (nodes p z h) (nodes r.1 z r.3)) on)) (closed p z h q l)

      right : is_in (nodes r.1 z r.3) q ≡ true → IsOut q ⊎ IsOn (nodes p z h ++ nodes r.1 z r.3) q
      right l = ⊎_elim round (λ on. inr (wider (nodes r.1 z r.3) (nodes p z h ++ nodes r.1 z r.3) q (on_right (nodes p z h) (nodes r.1 z r.3)) on)) (closed r.1 z r.3 q l)

-- ---- what the ends say

abbrev nobody : End
nobody = record { outcome = Ended; events = 0 }

dry_of : (v : Verdict) (N : Schema) (A : Histories) (p e c : ℕ) → (v ≡ Memory → ⊥) → IsWaiting v N A p e c → IsDryOn N A p e c
dry_of Memory N A p e c clear h = absurd (clear refl)
dry_of v N A p e c clear h = h

-- neither cut nor dry
abbrev IsThrough : Came Store → Type 0
IsThrough o = (o ≡ Cut → ⊥) × ((q : ℕ) → o ≡ Dry q → ⊥)

through : (o : Came Store) (x : net.Ending) → ending o ≡ Some x → ((q : ℕ) → x ≡ net.Waiting q → ⊥) → IsThrough o
through o x e apart = (λ cut. none (sym (ap ending cut) ∙ e), λ q dry. apart q (one (sym e ∙ ap ending dry)))
  where
    none : None ≡ Some x → ⊥
    none f = absurd cc

    one : {q : ℕ} → Some x ≡ Some (net.Waiting q) → x ≡ net.Waiting q
    one f = cc

out_of : (v : Verdict) (N : Schema) (A : Histories) (p e : ℕ) (o : Outcome) → IsEndedOrFaulted (standing_of o) → IsOutcome v N A p e o
    → IsThrough (exec_at N e p A).outcome
out_of v N A p e Ended over h = through (exec_at N e p A).outcome net.Ended h (λ q f. absurd cc)
out_of v N A p e (Faulted k) over h = through (exec_at N e p A).outcome (net.Faulted k) h (λ q f. absurd cc)
out_of v N A p e (Waits c) over h = absurd over
out_of v N A p e More over h = absurd over

module _ (N : Schema) (I : Inputs) (bound : ℕ) (watch : Option ℕ) (a : Answer) (r : IsRight N I bound watch a) (clear : a.verdict ≡ Memory → ⊥) where
  abbrev ss : List Standing
  ss = standings_of a

  abbrev events_at : ℕ → ℕ
  events_at p = (get_or a.ends.items p nobody).events

  count : (p : ℕ) (x : End) → HasEndAt a p x → x.events ≡ events_at p
  count p x h = ap (λ (y : End). y.events) (sym (get_or_from_slice_get a.ends.items p x nobody h))

  stood : (q : ℕ) (s : Standing) → slice_get ss q ≡ Some s → (x : End) × HasEndAt a q x × (stands x ≡ s)
  stood q s e = end_of a.ends.items q s (slice_get a.ends.items q) refl (sym (slice_get-map stands a.ends.items q) ∙ e)

  came : (q : ℕ) (x : End) → HasEndAt a q x → IsOutcome a.verdict N r.run.tapes q (events_at q) x.outcome
  came q x h = subst (λ e. IsOutcome a.verdict N r.run.tapes q e x.outcome) (count q x h) (r.run.outcomes q x h)

  dry : (q c : ℕ) → slice_get ss q ≡ Some (S.Waits c) → IsDryOn N r.run.tapes q (events_at q) c
  dry q c e =
      let (x, has, is) = stood q (S.Waits c) e in
      dry_of a.verdict N r.run.tapes q (events_at q) c clear
      (subst (IsOutcome a.verdict N r.run.tapes q (events_at q)) (waiting x.outcome c is) (came q x has))

  out : (q : ℕ) → IsOut N ss q → IsThrough (exec_at N (events_at q) q r.run.tapes).outcome
  out q h =
      let (x, has, is) = stood q h.0 h.1 in
      out_of a.verdict N r.run.tapes q (events_at q) x.outcome (subst IsEndedOrFaulted (sym is) h.2) (came q x has)

  same_dry : (o : Came Store) (q d : ℕ) → o ≡ Dry q → o ≡ Dry d → q ≡ d
  same_dry o q d e f = cc

  module _ (L : List ℕ) (shut : IsClosed N ss L) where
    has_end : (q : ℕ) → IsOut N ss q ⊎ IsOn N ss L q → (x : End) × HasEndAt a q x
    has_end q (inl h) = let s = stood q h.0 h.1 in (s.0, s.1)
    has_end q (inr on) = let s = stood q (S.Waits on.0) on.2.0 in (s.0, s.1)

    not_cut : (q : ℕ) → IsOut N ss q ⊎ IsOn N ss L q → (exec_at N (events_at q) q r.run.tapes).outcome ≡ Cut → ⊥
    not_cut q (inl h) e = (out q h).0 e
    not_cut q (inr on) e = let d = dry q on.0 on.2.0 in bad d.0 (exec_at N (events_at q) q r.run.tapes).outcome (sym e) d.2
      where
        bad : (k : ℕ) (o : Came Store) → Cut ≡ o → o ≡ Dry k → ⊥
        bad k o f g = absurd cc

    waits : (p q : ℕ) → IsOut N ss p ⊎ IsOn N ss L p → (exec_at N (events_at p) p r.run.tapes).outcome ≡ Dry q
        → (c w : ℕ) × (actual_at (instance_at N p) q ≡ Reads c) × (channel_source N c ≡ Written w) × (is_in L w ≡ true)
    waits p q (inl h) e = absurd ((out p h).1 q e)
    waits p q (inr on) e =
        let d = dry p on.0 on.2.0 in
        let same : d.0 ≡ q = same_dry (exec_at N (events_at p) p r.run.tapes).outcome d.0 q d.2 e in
        (on.0, on.1, subst (λ k. actual_at (instance_at N p) k ≡ Reads on.0) same d.1, on.2.1, on.3)

    stuck : AreStuck N I r.run.tapes events_at (is_in L)
    stuck = record {
      reached = r.run.others;
      over = λ p s. not_cut p (shut p s);
      sends = λ c p s source.
          let x = has_end p (shut p s) in
          subst (λ e. net.out N e p r.run.tapes c ≡ r.run.tapes c) (count p x.0 x.1) (r.run.sends p x.0 x.1 c source);
      waits = λ p q s. waits p q (shut p s);
    }

    good : (J : Inputs) → AreInputsExtended I J → (p : ℕ) → is_in L p ≡ true → (x : End) → HasEndAt a p x → (o : net.Ending)
        → ending (exec_at N (events_at p) p r.run.tapes).outcome ≡ Some o → net.HasEnd N J p o x.events
    good J longer p s x has o e =
        subst (net.HasEnd N J p o) (sym (count p x has))
        (stays_so N I r.run.tapes events_at (is_in L) stuck J longer p s o e
        (subst (λ k. (exec_at N k p r.run.tapes).events ≡ k) (count p x has) (r.run.does p x has)))

    no_more : (p : ℕ) (x : End) → HasEndAt a p x → IsOut N ss p ⊎ IsOn N ss L p → x.outcome ≡ More → ⊥
    no_more p x has h e =
        let at : slice_get ss p ≡ Some S.More = slice_get-map stands a.ends.items p ∙ ap (option_map stands) has ∙ ap (λ o. Some (standing_of o)) e in
        ⊎_elim (λ o. more_over o.0 (sym at ∙ o.1) o.2) (λ on. more_waits on.0 (sym at ∙ on.2.0)) h
      where
        more_over : (s : Standing) → Some S.More ≡ Some s → IsEndedOrFaulted s → ⊥
        more_over s f over = subst IsEndedOrFaulted (sym same) over
          where
            same : S.More ≡ s
            same = cc

        more_waits : (c : ℕ) → Some S.More ≡ Some (S.Waits c) → ⊥
        more_waits c f = absurd cc

    for_end : (J : Inputs) → AreInputsExtended I J → (p : ℕ) → is_in L p ≡ true → (x : End) → HasEndAt a p x → (o : Outcome) → x.outcome ≡ o
        → IsEnd N J p o x.events
    for_end J longer p s x has Ended e = good J longer p s x has net.Ended (subst (IsOutcome a.verdict N r.run.tapes p (events_at p)) e (came p x has))
    for_end J longer p s x has (Faulted k) e = good J longer p s x has (net.Faulted k) (subst (IsOutcome a.verdict N r.run.tapes p (events_at p)) e (came p x has))
    for_end J longer p s x has (Waits c) e =
        let d = dry_of a.verdict N r.run.tapes p (events_at p) c clear (subst (IsOutcome a.verdict N r.run.tapes p (events_at p)) e (came p x has)) in
        (d.0, d.1, good J longer p s x has (net.Waiting d.0) (ap ending d.2))
    for_end J longer p s x has More e = absurd (no_more p x has (shut p s) e)

  pub for_good : StayForGood N I a
  for_good p x (Input z c) has is final J longer = absurd final
  for_good p x (Stopped z s) has is final J longer =
      for_end (nodes N ss p z is.0) (closed_end N ss p z s is.0 is.1 final) J longer p (first N ss p z is.0) x has x.outcome refl
  for_good p x (Ring z) has is final J longer =
      let r : LeadsOn N ss z z = is.1.ring in
      for_end (nodes N ss p z is.0 ++ nodes N ss r.1 z r.3) (closed_ring N ss p z is.0 r) J longer p
      (on_left (nodes N ss p z is.0) (nodes N ss r.1 z r.3) p (first N ss p z is.0)) x has x.outcome refl
