-- Continuations are no more than doing one thing after another.
use Rattle.kahn_streams.proofs.Common.{fun_ext, ◌≡◌, ℕ, zero, suc, ◌-◌, true, List, ◌∷◌, refl, ap, ◌∙◌, slice_set, arith, zero-add, suc-add, Value, Logical, Expr, Stmt, Skip, Assign, Send, Print, Seq, If, While, Repeat, truth, Port, Parameter, Printer, Tapes, Script, Give, Fail, Waits, Sends, Turns, Rest, ScriptOutcome, Got, Dry, Fault, Cut, Reached, after_event, after_send, put, wait_at, play, Store, value_of, turns_of, script_of, go_on, and_so, ExpressionsCompose, StatementsCompose, []}
use Rattle.kahn_streams.proofs.Fuel.{alike_by, value_related}

-- x, and f on what it gives
abbrev graft : {A B : Type 0} → Script A → (A → Script B) → Script B
graft (Give a) f = f a
graft (Fail k) f = Fail k
graft (Waits q go) f = Waits q (λ v. graft (go v) f)
graft (Sends p v s) f = Sends p v (graft s f)
graft (Turns s) f = Turns (graft s f)
graft Rest f = Rest

less : {A B : Type 0} (n : ℕ) (o : ScriptOutcome A) (r : Reached A) (f : A → Script B) →
    after_event (go_on n o r f) ≡ go_on (suc n) o (after_event r) f
less n (Got a) r f =
    let e : suc n - suc r.events ≡ n - r.events = omega arith in
    rw (e, suc-add) refl
less n _ r f = refl

less_send : {A B : Type 0} (n : ℕ) (p : Port) (v : Value) (o : ScriptOutcome A) (r : Reached A) (f : A → Script B) →
    after_send p v (go_on n o r f) ≡ go_on (suc n) o (after_send p v r) f
less_send n p v (Got a) r f =
    let e : suc n - suc r.events ≡ n - r.events = omega arith in
    rw (e, suc-add) refl
less_send n p v _ r f = refl

graft_wait : {A B : Type 0} (n q : ℕ) (T : Tapes) (vs : List Value) (go : ℕ → Value → Tapes → Reached A) (go' : ℕ → Value → Tapes → Reached B) (f : A → Script B) →
    ((m : ℕ) (v : Value) (U : Tapes) → go' m v U ≡ and_so m (go m v U) f) →
    wait_at n q T vs go' ≡ and_so n (wait_at n q T vs go) f
graft_wait n q T [] go go' f h = refl
graft_wait zero q T (v ∷ vs) go go' f h = refl
graft_wait (suc n) q T (v ∷ vs) go go' f h = ap after_event (h n v (put T q vs)) ∙ less n _ _ f

play_graft : {A B : Type 0} (n : ℕ) (x : Script A) (f : A → Script B) (T : Tapes) →
    play n (graft x f) T ≡ and_so n (play n x T) f
play_graft n (Give a) f T =
    let e : n - 0 ≡ n = omega arith in
    rw (e, zero-add) refl
play_graft n (Waits q go) f T =
    graft_wait n q T (T q) (λ m v U. play m (go v) U) (λ m v U. play m (graft (go v) f) U) f (λ m v U. play_graft m (go v) f U)
play_graft (suc n) (Sends p v s) f T = ap (after_send p v) (play_graft n s f T) ∙ less_send n p v _ _ f
play_graft (suc n) (Turns s) f T = ap after_event (play_graft n s f T) ∙ less n _ _ f
play_graft n _ f T = refl

-- it is enough that what goes on is grafted
value_graft : {A B : Type 0} (e : Expr) (s : Store) (f : Value → Script A) (f' : Value → Script B) (g : A → Script B) →
    ((v : Value) → f' v ≡ graft (f v) g) → value_of e s f' ≡ graft (value_of e s f) g
value_graft e s f f' g h = value_related (λ x y. y ≡ graft x g) (λ k. refl) (λ q i j l. ap (Waits q) (fun_ext l)) e s f f' h

pub expressions_compose : (B : Type 0) → ExpressionsCompose B
expressions_compose B n e s next T =
    ap (λ x. play n x T) (value_graft e s Give next next (λ v. refl)) ∙ play_graft n (value_of e s Give) next T

turns_graft : {A B : Type 0} (k : ℕ)
    (test : Store → (Value → Script A) → Script A) (test' : Store → (Value → Script B) → Script B)
    (body : Store → (Store → Script A) → Script A) (body' : Store → (Store → Script B) → Script B) (g : A → Script B) →
    ((r : Store) (f : Value → Script A) (f' : Value → Script B) → ((v : Value) → f' v ≡ graft (f v) g) → test' r f' ≡ graft (test r f) g) →
    ((r : Store) (f : Store → Script A) (f' : Store → Script B) → ((v : Store) → f' v ≡ graft (f v) g) → body' r f' ≡ graft (body r f) g) →
    (s : Store) (f : Store → Script A) (f' : Store → Script B) → ((r : Store) → f' r ≡ graft (f r) g) →
    turns_of k test' body' s f' ≡ graft (turns_of k test body s f) g
turns_graft zero test test' body body' g ht hb s f f' h = refl
turns_graft (suc k) test test' body body' g ht hb s f f' h =
    ap Turns (ht s _ _ (λ v. alike_by (λ x y. y ≡ graft x g) (truth v) _ _ _ _
    (hb s _ _ (λ r. turns_graft k test test' body body' g ht hb r f f' h))
    (h s)))

script_graft : {A B : Type 0} (k : ℕ) (b : Stmt) (s : Store) (f : Store → Script A) (f' : Store → Script B) (g : A → Script B) →
    ((r : Store) → f' r ≡ graft (f r) g) → script_of k b s f' ≡ graft (script_of k b s f) g
script_graft k Skip s f f' g h = h s
script_graft k (Assign x e) s f f' g h = value_graft e s _ _ g (λ v. h (slice_set s x v))
script_graft k (Send e q) s f f' g h = value_graft e s _ _ g (λ v. ap (Sends (Parameter q) v) (h s))
script_graft k (Print e) s f f' g h = value_graft e s _ _ g (λ v. ap (Sends Printer v) (h s))
script_graft k (Seq a b) s f f' g h = script_graft k a s _ _ g (λ r. script_graft k b r f f' g h)
script_graft k (If t a b) s f f' g h =
    value_graft t s _ _ g (λ v. alike_by (λ x y. y ≡ graft x g) (truth v) _ _ _ _ (script_graft k a s f f' g h) (script_graft k b s f f' g h))
script_graft k (While t b) s f f' g h =
    turns_graft k _ _ _ _ g (λ r x x' e. value_graft t r x x' g e) (λ r x x' e. script_graft k b r x x' g e) s f f' h
script_graft k (Repeat b) s f f' g h =
    turns_graft k _ _ _ _ g (λ r x x' e. e (Logical true)) (λ r x x' e. script_graft k b r x x' g e) s f f' h

pub statements_compose : (B : Type 0) → StatementsCompose B
statements_compose B n k b s next T =
    ap (λ x. play n x T) (script_graft k b s Give next next (λ r. refl)) ∙ play_graft n (script_of k b s Give) next T
