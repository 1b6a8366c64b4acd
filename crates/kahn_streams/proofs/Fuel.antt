-- How far a loop is unrolled makes no difference to n events, where it is unrolled to n turns.
use Rattle.kahn_streams.proofs.Common.{◌≡◌, ℕ, zero, suc, ◌≤◌, Bool, true, false, List, ◌∷◌, refl, ap, Result, Ok, Err, neg_ℤ, not, slice_set, le_of_suc-le-suc, not-suc-le-zero, arith, Value, Failure, Logical, Expr, Literal, Variable, Wait, Negate, Not, Binary, Conditional, Stmt, Skip, Assign, Send, Print, Seq, If, While, Repeat, number, truth, ranged, apply, Port, Parameter, Printer, Tapes, Script, Give, Fail, Waits, Sends, Turns, Reached, after_event, after_send, put, wait_at, play, Store, constant, read, settle, value_of, turns_of, script_of, []}

-- two scripts that n events can't tell apart
pub data Alike {A : Type 0} : ℕ → Script A → Script A → Type 0 where
  gives : {n : ℕ} {a : A} → Alike n (Give a) (Give a)
  fails : {n : ℕ} {k : Failure} → Alike n (Fail k) (Fail k)
  waits_last : {q : ℕ} {f g : Value → Script A} → Alike zero (Waits q f) (Waits q g)
  waits : {n q : ℕ} {f g : Value → Script A} → ((v : Value) → Alike n (f v) (g v)) → Alike (suc n) (Waits q f) (Waits q g)
  sends_last : {p : Port} {v : Value} {s t : Script A} → Alike zero (Sends p v s) (Sends p v t)
  sends : {n : ℕ} {p : Port} {v : Value} {s t : Script A} → Alike n s t → Alike (suc n) (Sends p v s) (Sends p v t)
  turns_last : {s t : Script A} → Alike zero (Turns s) (Turns t)
  turns : {n : ℕ} {s t : Script A} → Alike n s t → Alike (suc n) (Turns s) (Turns t)

-- one event fewer
pub fewer : {A : Type 0} {n : ℕ} {s t : Script A} → Alike (suc n) s t → Alike n s t
fewer gives = gives
fewer fails = fails
fewer {n = zero} (waits h) = waits_last
fewer {n = suc n} (waits h) = waits (λ v. fewer (h v))
fewer {n = zero} (sends h) = sends_last
fewer {n = suc n} (sends h) = sends (fewer h)
fewer {n = zero} (turns h) = turns_last
fewer {n = suc n} (turns h) = turns (fewer h)

alike_wait : {A : Type 0} (n q : ℕ) (T : Tapes) (vs : List Value) (go go' : ℕ → Value → Tapes → Reached A) →
    ((m : ℕ) (v : Value) (T' : Tapes) → suc m ≡ n → go m v T' ≡ go' m v T') → wait_at n q T vs go ≡ wait_at n q T vs go'
alike_wait n q T [] go go' h = refl
alike_wait zero q T (v ∷ vs) go go' h = refl
alike_wait (suc n) q T (v ∷ vs) go go' h = ap after_event (h n v (put T q vs) refl)

pub play_alike : {A : Type 0} {n : ℕ} {s t : Script A} → Alike n s t → (T : Tapes) → play n s T ≡ play n t T
play_alike gives T = refl
play_alike fails T = refl
play_alike (waits_last {q = q} {f = f} {g = g}) T =
    alike_wait zero q T (T q) (λ m v T'. play m (f v) T') (λ m v T'. play m (g v) T') (λ m v T' e. absurd (omega (arith, e)))
play_alike (waits {n = n} {q = q} {f = f} {g = g} h) T =
    alike_wait (suc n) q T (T q) (λ m v T'. play m (f v) T') (λ m v T'. play m (g v) T') (λ m v T' e. let e' : m ≡ n = omega (arith, e) in rw e' (play_alike (h v) T'))
play_alike sends_last T = refl
play_alike (sends {p = p} {v = v} h) T = ap (after_send p v) (play_alike h T)
play_alike turns_last T = refl
play_alike (turns h) T = ap after_event (play_alike h T)

pub alike_by : {A B : Type 0} (R : Script A → Script B → Type 0) (b : Bool) (s s' : Script A) (t t' : Script B) → R s t → R s' t' →
    R (elim b [ true ↦ s | false ↦ s' ]) (elim b [ true ↦ t | false ↦ t' ])
alike_by R true s s' t t' h h' = h
alike_by R false s s' t t' h h' = h'

-- R holds of what an expression does before what goes on, where it holds of what goes on, of failures and of waiting
module _ {A B : Type 0} (R : Script A → Script B → Type 0) (failed : (k : Failure) → R (Fail k) (Fail k))
    (waited : (q : ℕ) (f : Value → Script A) (g : Value → Script B) → ((v : Value) → R (f v) (g v)) → R (Waits q f) (Waits q g)) where
  settle_related : (r : Result Value Failure) (f : Value → Script A) (g : Value → Script B) → ((v : Value) → R (f v) (g v)) → R (settle r f) (settle r g)
  settle_related (Ok v) f g h = h v
  settle_related (Err k) f g h = failed k

  pub value_related : (e : Expr) (s : Store) (f : Value → Script A) (g : Value → Script B) → ((v : Value) → R (f v) (g v)) → R (value_of e s f) (value_of e s g)
  value_related (Literal c) s f g h = h (constant c)
  value_related (Variable x) s f g h = h (read s x)
  value_related (Wait q) s f g h = waited q f g h
  value_related (Negate e) s f g h = value_related e s _ _ (λ v. settle_related (ranged (neg_ℤ (number v))) f g h)
  value_related (Not e) s f g h = value_related e s _ _ (λ v. h (Logical (not (truth v))))
  value_related (Binary o a b) s f g h = value_related a s _ _ (λ v. value_related b s _ _ (λ w. settle_related (apply o v w) f g h))
  value_related (Conditional t a b) s f g h =
      value_related t s _ _ (λ v. alike_by R (truth v) _ _ _ _ (value_related a s f g h) (value_related b s f g h))

alike_waits : {A : Type 0} (n q : ℕ) (next next' : Value → Script A) →
    ((v : Value) → Alike n (next v) (next' v)) → Alike n (Waits q next) (Waits q next')
alike_waits zero q next next' h = waits_last
alike_waits (suc n) q next next' h = waits (λ v. fewer (h v))

alike_sends : {A : Type 0} (n : ℕ) (p : Port) (v : Value) (s t : Script A) → Alike n s t → Alike n (Sends p v s) (Sends p v t)
alike_sends zero p v s t h = sends_last
alike_sends (suc n) p v s t h = sends (fewer h)

pub value_alike : {A : Type 0} (n : ℕ) (e : Expr) (s : Store) (next next' : Value → Script A) →
    ((v : Value) → Alike n (next v) (next' v)) → Alike n (value_of e s next) (value_of e s next')
value_alike n e s next next' h = value_related (Alike n) (λ k. fails) (alike_waits n) e s next next' h

-- a way to go on that keeps scripts alike
abbrev pub Keeps : {A X : Type 0} → ℕ → (Store → (X → Script A) → Script A) → (Store → (X → Script A) → Script A) → Type 0
Keeps {A} {X} n f g = (m : ℕ) → m ≤ n → (s : Store) (next next' : X → Script A) →
    ((x : X) → Alike m (next x) (next' x)) → Alike m (f s next) (g s next')

turns_first : {A : Type 0} (k k' : ℕ) (test test' : Store → (Value → Script A) → Script A) (body body' : Store → (Store → Script A) → Script A) (s : Store) (next next' : Store → Script A) →
    Alike zero (turns_of k test body s next) (turns_of k' test' body' s next')
turns_first zero zero test test' body body' s next next' = turns_last
turns_first zero (suc k') test test' body body' s next next' = turns_last
turns_first (suc k) zero test test' body body' s next next' = turns_last
turns_first (suc k) (suc k') test test' body body' s next next' = turns_last

pub turns_alike : {A : Type 0} (n k k' : ℕ) (test : Store → (Value → Script A) → Script A) (body body' : Store → (Store → Script A) → Script A) →
    n ≤ k → n ≤ k' → Keeps n test test → Keeps n body body' → (s : Store) (next next' : Store → Script A) →
    ((r : Store) → Alike n (next r) (next' r)) →
    Alike n (turns_of k test body s next) (turns_of k' test body' s next')
turns_alike zero k k' test body body' le le' kt kb s next next' h = turns_first k k' test test body body' s next next'
turns_alike (suc n) zero k' test body body' le le' kt kb s next next' h = absurd (not-suc-le-zero le)
turns_alike (suc n) (suc k) zero test body body' le le' kt kb s next next' h = absurd (not-suc-le-zero le')
turns_alike (suc n) (suc k) (suc k') test body body' le le' kt kb s next next' h =
    turns
    (kt n (omega arith) s _ _ (λ v.
    alike_by (Alike n) (truth v) _ _ _ _
    (kb n (omega arith) s _ _ (λ r.
    turns_alike n k k' test body body' (le_of_suc-le-suc le) (le_of_suc-le-suc le')
    (λ m l. kt m (omega (arith, l))) (λ m l. kb m (omega (arith, l))) r next next' (λ x. fewer (h x))))
    (fewer (h s))))

pub script_alike : {A : Type 0} (n k k' : ℕ) (b : Stmt) → n ≤ k → n ≤ k' → (s : Store) (next next' : Store → Script A) →
    ((r : Store) → Alike n (next r) (next' r)) → Alike n (script_of k b s next) (script_of k' b s next')
script_alike n k k' Skip le le' s next next' h = h s
script_alike n k k' (Assign x e) le le' s next next' h = value_alike n e s _ _ (λ v. h (slice_set s x v))
script_alike n k k' (Send e q) le le' s next next' h =
    value_alike n e s _ _ (λ v. alike_sends n (Parameter q) v _ _ (h s))
script_alike n k k' (Print e) le le' s next next' h = value_alike n e s _ _ (λ v. alike_sends n Printer v _ _ (h s))
script_alike n k k' (Seq a b) le le' s next next' h =
    script_alike n k k' a le le' s _ _ (λ r. script_alike n k k' b le le' r next next' h)
script_alike n k k' (If t a b) le le' s next next' h =
    value_alike n t s _ _ (λ v.
    alike_by (Alike n) (truth v) _ _ _ _
    (script_alike n k k' a le le' s next next' h)
    (script_alike n k k' b le le' s next next' h))
script_alike n k k' (While t b) le le' s next next' h =
    turns_alike n k k' _ _ _ le le'
    (λ m l r f f' g. value_alike m t r f f' g)
    (λ m l r f f' g. script_alike m k k' b (omega arith) (omega arith) r f f' g)
    s next next' h
script_alike n k k' (Repeat b) le le' s next next' h =
    turns_alike n k k' _ _ _ le le'
    (λ m l r f f' g. g (Logical true))
    (λ m l r f f' g. script_alike m k k' b (omega arith) (omega arith) r f f' g)
    s next next' h
