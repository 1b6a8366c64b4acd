-- A script on longer tapes.
use Rattle.kahn_streams.proofs.Common.{fun_ext, ◌≡◌, ℕ, zero, suc, ◌≤◌, ◌==◌, Bool, true, false, List, ◌∷◌, ◌++◌, refl, sym, ap, ◌∙◌, eqb-true, if◌then◌else◌, le_of_suc-le-suc, not-suc-le-zero, arith, Value, Tapes, Script, Give, Fail, Waits, Sends, Turns, Rest, ScriptOutcome, Got, Dry, Fault, Cut, Reached, at_once, after_event, after_send, put, wait_at, play, []}

-- each tape with more behind it
abbrev pub and_more : Tapes → Tapes → Tapes
and_more T U r = T r ++ U r

put_more_at : (T U : Tapes) (q : ℕ) (vs : List Value) (r : ℕ) (b : Bool) → (r == q) ≡ b →
    (if b then vs ++ U q else (T r ++ U r)) ≡ (if b then vs else T r) ++ U r
put_more_at T U q vs r true e = ap (λ x. vs ++ U x) (sym (eqb-true r q e))
put_more_at T U q vs r false e = refl

pub put_more : (T U : Tapes) (q : ℕ) (vs : List Value) → put (and_more T U) q (vs ++ U q) ≡ and_more (put T q vs) U
put_more T U q vs = fun_ext (λ r. put_more_at T U q vs r (r == q) refl)

abbrev pub widened : {A : Type 0} → Tapes → Reached A → Reached A
widened U r = record { outcome = r.outcome; left = and_more r.left U; events = r.events; sent = r.sent }

abbrev pub cut_short : {A : Type 0} → Tapes → Reached A → Reached A
cut_short U r = record { outcome = Cut; left = and_more r.left U; events = r.events; sent = r.sent }

-- where it is dry, that tape is no longer
abbrev pub Stays : {A : Type 0} → Tapes → ScriptOutcome A → Type 0
Stays U (Got a) = Unit {0}
Stays U (Dry q) = U q ≡ []
Stays U (Fault k) = Unit {0}
Stays U Cut = Unit {0}

frame_wait : {A : Type 0} (n q : ℕ) (T U : Tapes) (vs : List Value) (go : ℕ → Value → Tapes → Reached A) →
    ((m : ℕ) (v : Value) (T' : Tapes) → Stays U (go m v T').outcome → go m v (and_more T' U) ≡ widened U (go m v T')) →
    Stays U (wait_at n q T vs go).outcome →
    wait_at n q (and_more T U) (vs ++ U q) go ≡ widened U (wait_at n q T vs go)
frame_wait n q T U [] go step h = rw h refl
frame_wait zero q T U (v ∷ vs) go step h = refl
frame_wait (suc n) q T U (v ∷ vs) go step h = rw (put_more T U q vs) (ap after_event (step n v (put T q vs) h))

-- the same on longer tapes
pub frame_play : {A : Type 0} (n : ℕ) (s : Script A) (T U : Tapes) → Stays U (play n s T).outcome →
    play n s (and_more T U) ≡ widened U (play n s T)
frame_play n (Waits q go) T U h =
    frame_wait n q T U (T q) (λ m v T'. play m (go v) T') (λ m v T' h'. frame_play m (go v) T' U h') h
frame_play (suc n) (Sends p v s) T U h = ap (after_send p v) (frame_play n s T U h)
frame_play (suc n) (Turns s) T U h = ap after_event (frame_play n s T U h)
frame_play n _ T U h = refl

-- dry, with no event left, on a tape that is longer: cut

dry_now : {A : Type 0} (n q : ℕ) (T U : Tapes) (us : List Value) (go : ℕ → Value → Tapes → Reached A) →
    (us ≡ [] → ⊥) → 0 ≡ n → wait_at n q (and_more T U) us go ≡ at_once Cut (and_more T U)
dry_now n q T U [] go h e = absurd (h refl)
dry_now zero q T U (u ∷ us) go h e = refl
dry_now (suc n) q T U (u ∷ us) go h e = absurd (omega (arith, e))

dry_index : {A : Type 0} → ScriptOutcome A → ℕ → ℕ
dry_index (Dry q) r = q
dry_index _ r = r

same_dry : {A : Type 0} {q r : ℕ} → ◌≡◌ {A = ScriptOutcome A} (Dry q) (Dry r) → q ≡ r
unfolding dry_index
same_dry {r = r} e = ap (λ o. dry_index o r) e

dry_wait : {A : Type 0} (n q r : ℕ) (T U : Tapes) (vs : List Value) (go : ℕ → Value → Tapes → Reached A) →
    ((m : ℕ) (v : Value) (T' : Tapes) → (go m v T').outcome ≡ Dry r → (go m v T').events ≡ m → go m v (and_more T' U) ≡ cut_short U (go m v T')) →
    (U r ≡ [] → ⊥) → (wait_at n q T vs go).outcome ≡ Dry r → (wait_at n q T vs go).events ≡ n →
    wait_at n q (and_more T U) (vs ++ U q) go ≡ cut_short U (wait_at n q T vs go)
dry_wait n q r T U [] go step longer e f = dry_now n q T U (U q) go (λ h. longer (ap U (sym (same_dry e)) ∙ h)) f
dry_wait zero q r T U (v ∷ vs) go step longer e f = refl
dry_wait (suc n) q r T U (v ∷ vs) go step longer e f =
    rw (put_more T U q vs) (ap after_event (step n v (put T q vs) e (omega (arith, f))))

pub dry_play : {A : Type 0} (n : ℕ) (s : Script A) (T U : Tapes) (r : ℕ) → (U r ≡ [] → ⊥) →
    (play n s T).outcome ≡ Dry r → (play n s T).events ≡ n → play n s (and_more T U) ≡ cut_short U (play n s T)
dry_play n (Give a) T U r longer e f = absurd cc
dry_play n (Fail k) T U r longer e f = absurd cc
dry_play n (Waits q go) T U r longer e f =
    dry_wait n q r T U (T q) (λ m v T'. play m (go v) T') (λ m v T' e' f'. dry_play m (go v) T' U r longer e' f') longer e f
dry_play (suc n) (Sends p v s) T U r longer e f =
    ap (after_send p v) (dry_play n s T U r longer e (omega (arith, f)))
dry_play (suc n) (Turns s) T U r longer e f = ap after_event (dry_play n s T U r longer e (omega (arith, f)))
dry_play n _ T U r longer e f = refl

-- in every case, and with more events, what is sent begins with what was sent

abbrev pub Begins : {A : Type 0} → List A → List A → Type 0
Begins {A} xs ys = (zs : List A) × (ys ≡ xs ++ zs)

pub begins_cons : {A : Type 0} (x : A) (xs ys : List A) → Begins xs ys → Begins (x ∷ xs) (x ∷ ys)
begins_cons x xs ys h = (h.0, ap (λ l. x ∷ l) h.1)

pub begins_nil : {A : Type 0} (ys : List A) → Begins [] ys
begins_nil ys = (ys, refl)

grows_wait : {A : Type 0} (n m q : ℕ) (T U : Tapes) (vs : List Value) (go : ℕ → Value → Tapes → Reached A) → n ≤ m →
    ((i j : ℕ) (v : Value) (T' : Tapes) → i ≤ j → Begins (go i v T').sent (go j v (and_more T' U)).sent) →
    Begins (wait_at n q T vs go).sent (wait_at m q (and_more T U) (vs ++ U q) go).sent
grows_wait n m q T U [] go le step = begins_nil _
grows_wait zero m q T U (v ∷ vs) go le step = begins_nil _
grows_wait (suc n) zero q T U (v ∷ vs) go le step = absurd (not-suc-le-zero le)
grows_wait (suc n) (suc m) q T U (v ∷ vs) go le step =
    rw (put_more T U q vs) (step n m v (put T q vs) (le_of_suc-le-suc le))

pub grows_play : {A : Type 0} (n m : ℕ) (s : Script A) (T U : Tapes) → n ≤ m →
    Begins (play n s T).sent (play m s (and_more T U)).sent
grows_play n m (Waits q go) T U le =
    grows_wait n m q T U (T q) (λ i v T'. play i (go v) T') le (λ i j v T' le'. grows_play i j (go v) T' U le')
grows_play (suc n) zero (Sends p v s) T U le = absurd (not-suc-le-zero le)
grows_play (suc n) (suc m) (Sends p v s) T U le =
    begins_cons (p, v) _ _ (grows_play n m s T U (le_of_suc-le-suc le))
grows_play (suc n) zero (Turns s) T U le = absurd (not-suc-le-zero le)
grows_play (suc n) (suc m) (Turns s) T U le = grows_play n m s T U (le_of_suc-le-suc le)
grows_play n m _ T U le = begins_nil _
