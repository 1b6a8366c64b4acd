-- A run is its steps.
use Rattle.kahn_streams.proofs.Common.{fun_ext, ◌≡◌, ℕ, zero, suc, ◌==◌, Bool, true, false, List, ◌∷◌, ◌++◌, length, refl, sym, ap, ◌∙◌, subst, eqb-true, if◌then◌else◌, append-nil, arith, Value, Tapes, Script, Give, Fail, Waits, Sends, Turns, Rest, ScriptOutcome, Dry, Cut, Reached, at_once, after_event, after_send, put, wait_at, play, Step, Took, Sent, Turned, Follows, here, took, sent, turned, empty, values_taken, sends_of, and_then, since, halted, RanBy, []}
use Rattle.kahn_streams.proofs.Framed.{and_more}
use Rattle.kahn_streams.proofs.Fuel.{Alike, gives, fails, waits_last, waits, sends_last, sends, turns_last, turns}

-- ---- one step after another

pub follows_append : {A : Type 0} {s s' s'' : Script A} {a b : List Step} → Follows s a s' → Follows s' b s'' → Follows s (a ++ b) s''
follows_append here g = g
follows_append (took h) g = took (follows_append h g)
follows_append (sent h) g = sent (follows_append h g)
follows_append (turned h) g = turned (follows_append h g)

-- ---- playing on from where the steps led

eqb_refl : (q : ℕ) → (q == q) ≡ true
eqb_refl q = grind arith

took_here : (q : ℕ) (v : Value) (V : Tapes) → (if q == q then v ∷ V q else V q) ≡ v ∷ V q
took_here q v V = rw (eqb_refl q) refl

put_took_at : (b : Bool) (q r : ℕ) (v : Value) (V T : Tapes) → (r == q) ≡ b →
    (if b then V q ++ T q else ((if b then v ∷ V r else V r) ++ T r)) ≡ V r ++ T r
put_took_at true q r v V T e = ap (λ x. V x ++ T x) (sym (eqb-true r q e))
put_took_at false q r v V T e = refl

put_took : (q : ℕ) (v : Value) (V T : Tapes) →
    put (and_more (λ r. if r == q then v ∷ V r else V r) T) q (V q ++ T q) ≡ and_more V T
put_took q v V T = fun_ext (λ r. put_took_at (r == q) q r v V T refl)

-- after these steps it goes on as the script that they led to
pub play_on : {A : Type 0} {s s' : Script A} {steps : List Step} → Follows s steps s' → (n : ℕ) (T : Tapes) →
    play (and_then steps n) s (and_more (values_taken steps) T) ≡ since steps (play n s' T)
play_on here n T = refl
play_on (took {q = q} {v = v} {go = go} {steps = steps} h) n T =
    rw (took_here q v (values_taken steps), put_took q v (values_taken steps) T) (ap after_event (play_on h n T))
play_on (sent {p = p} {v = v} h) n T = ap (after_send p v) (play_on h n T)
play_on (turned h) n T = ap after_event (play_on h n T)

-- ---- with no event left

pub play_zero : {A : Type 0} (s : Script A) → play 0 s empty ≡ at_once (halted s) empty
play_zero (Give a) = refl
play_zero _ = refl

and_then_zero : (steps : List Step) → and_then steps 0 ≡ length steps
and_then_zero [] = refl
and_then_zero (x ∷ steps) = ap suc (and_then_zero steps)

and_more_empty : (V : Tapes) → and_more V empty ≡ V
and_more_empty V = fun_ext (λ q. append-nil (V q))

-- just the values taken and just the events done: all values are taken, and the same is sent
pub play_taken : {A : Type 0} {s s' : Script A} {steps : List Step} → Follows s steps s' →
    play (length steps) s (values_taken steps) ≡ record { outcome = halted s'; left = empty; events = length steps; sent = sends_of steps }
play_taken {A = A} {s = s} {s' = s'} {steps = steps} h =
    ap (λ n. play n s (values_taken steps)) (sym (and_then_zero steps)) ∙
    (ap (play (and_then steps 0) s) (sym (and_more_empty (values_taken steps))) ∙
    (play_on h 0 empty ∙
    (ap (since steps) (play_zero s') ∙ tidy steps (halted s'))))
  where
    tidy : (steps : List Step) (o : ScriptOutcome A) → since steps (at_once o empty) ≡ record { outcome = o; left = empty; events = length steps; sent = sends_of steps }
    tidy steps o = rw (and_then_zero steps, append-nil (sends_of steps)) refl

-- ---- the steps of a run

split_put : (T : Tapes) (q : ℕ) (v : Value) (vs : List Value) (V left : Tapes) → T q ≡ v ∷ vs →
    ((r : ℕ) → put T q vs r ≡ V r ++ left r) → (r : ℕ) → T r ≡ (if r == q then v ∷ V r else V r) ++ left r
split_put T q v vs V left e h r = by (r == q) refl (h r)
  where
    by : (b : Bool) → (r == q) ≡ b → (if b then vs else T r) ≡ V r ++ left r → T r ≡ (if b then v ∷ V r else V r) ++ left r
    by true f g = ap T (eqb-true r q f) ∙ (e ∙ ap (λ l. v ∷ l) g)
    by false f g = g

ran_wait : {A : Type 0} (n q : ℕ) (T : Tapes) (go : Value → Script A) (vs : List Value) → T q ≡ vs →
    ((m : ℕ) (v : Value) (T' : Tapes) → RanBy (go v) T' (play m (go v) T')) →
    RanBy (Waits q go) T (wait_at n q T vs (λ m v U. play m (go v) U))
ran_wait n q T go [] e step =
    record { steps = []; to = Waits q go; follows = here; tapes = λ r. refl; events = refl; sent = refl; stopped = ((go, refl), e) }
ran_wait {A = A} zero q T go (v ∷ vs) e step =
    record { steps = []; to = Waits q go; follows = here; tapes = λ r. refl; events = refl; sent = refl; stopped = λ r f g. full e (same_dry f) g }
  where
    same_dry : {r : ℕ} → ◌≡◌ {A = ScriptOutcome A} (Dry q) (Dry r) → q ≡ r
    same_dry f = cc

    full : {r : ℕ} → T q ≡ v ∷ vs → q ≡ r → T r ≡ [] → ⊥
    full f g h = let x : v ∷ vs ≡ [] = sym f ∙ (ap T g ∙ h) in cc
ran_wait (suc n) q T go (v ∷ vs) e step =
    let r = step n v (put T q vs) in
    record {
      steps = Took q v ∷ r.steps;
      to = r.to;
      follows = took r.follows;
      tapes = split_put T q v vs (values_taken r.steps) (play n (go v) (put T q vs)).left e r.tapes;
      events = ap suc r.events;
      sent = r.sent;
      stopped = r.stopped;
    }

pub ran : {A : Type 0} (n : ℕ) (s : Script A) (T : Tapes) → RanBy s T (play n s T)
ran n (Give a) T =
    record { steps = []; to = Give a; follows = here; tapes = λ r. refl; events = refl; sent = refl; stopped = refl }
ran n (Fail k) T =
    record { steps = []; to = Fail k; follows = here; tapes = λ r. refl; events = refl; sent = refl; stopped = refl }
ran n (Waits q go) T = ran_wait n q T go (T q) refl (λ m v T'. ran m (go v) T')
ran (suc n) (Sends p v s) T =
    let r = ran n s T in
    record { steps = Sent p v ∷ r.steps; to = r.to; follows = sent r.follows; tapes = r.tapes; events = ap suc r.events; sent = ap (λ l. (p, v) ∷ l) r.sent; stopped = r.stopped }
ran (suc n) (Turns s) T =
    let r = ran n s T in
    record { steps = Turned ∷ r.steps; to = r.to; follows = turned r.follows; tapes = r.tapes; events = ap suc r.events; sent = r.sent; stopped = r.stopped }
ran n s T =
    record { steps = []; to = s; follows = here; tapes = λ r. refl; events = refl; sent = refl; stopped = λ r f g. absurd cc }

-- ---- cut means that all events were done

full_wait : {A : Type 0} (n q : ℕ) (T : Tapes) (vs : List Value) (go : ℕ → Value → Tapes → Reached A) →
    ((m : ℕ) (v : Value) (T' : Tapes) → suc m ≡ n → (go m v T').outcome ≡ Cut → (go m v T').events ≡ m) →
    (wait_at n q T vs go).outcome ≡ Cut → (wait_at n q T vs go).events ≡ n
full_wait n q T [] go step e = absurd cc
full_wait zero q T (v ∷ vs) go step e = refl
full_wait (suc n) q T (v ∷ vs) go step e = ap suc (step n v (put T q vs) refl e)

-- a script that is alike itself for n events has no end of the unrolling within them
pub cut_is_full : {A : Type 0} {n : ℕ} {s t : Script A} → Alike n s t → (T : Tapes) →
    (play n s T).outcome ≡ Cut → (play n s T).events ≡ n
cut_is_full gives T e = absurd cc
cut_is_full fails T e = absurd cc
cut_is_full (waits_last {q = q} {f = f}) T e =
    full_wait zero q T (T q) (λ m v U. play m (f v) U) (λ m v T' g. absurd (omega (arith, g))) e
cut_is_full (waits {n = n} {q = q} {f = f} h) T e =
    full_wait (suc n) q T (T q) (λ m v U. play m (f v) U)
    (λ m v T' g x.
    let g' : n ≡ m = omega (arith, g) in
    subst (λ k. (play k (f v) T').outcome ≡ Cut → (play k (f v) T').events ≡ k) g' (cut_is_full (h v) T') x) e
cut_is_full sends_last T e = refl
cut_is_full (sends h) T e = ap suc (cut_is_full h T e)
cut_is_full turns_last T e = refl
cut_is_full (turns h) T e = ap suc (cut_is_full h T e)
