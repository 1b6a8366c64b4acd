-- What a process does keeps kinds: from values of the right kinds, on tapes of the right kinds, it sends values of
-- the right kinds.
use Rattle.kahn_streams.proofs.Common.{◌≡◌, ℕ, zero, suc, ◌+ℤ◌, ◌-ℤ◌, ◌*ℤ◌, ◌==◌, ℤ, neg_ℤ, int_div, int_rem, Bool, true, false, not, List, ◌∷◌, Option, Some, Result, Ok, Err, refl, sym, ◌∙◌, subst, eqb-true, slice_get, slice_set, if◌then◌else◌, AllByRecursion, Kind, Operator, Taking, Value, Failure, In, Out, Constant, Number, Truth, Expr, Literal, Variable, Wait, Negate, Not, Binary, Conditional, Stmt, Skip, Assign, Send, Print, Seq, If, While, Repeat, gives, constant_kind, HasKind, Agrees, Integer, Logical, number, truth, fits_64, is_zero, ranged, apply, Port, Parameter, Printer, Tapes, Script, Give, Fail, Waits, Sends, Turns, Rest, Reached, put, wait_at, play, Store, constant, read, settle, value_of, turns_of, script_of, kind_of_value, []}
use Rattle.kahn_streams.specs.declared.tree.Kind.TheVariants as K
use Rattle.kahn_streams.specs.declared.tree.Operator.TheVariants.{Or, And, Equal, Unequal, Less, AtMost, Greater, AtLeast, Add, Subtract, Multiply, Divide, Remainder}
use Rattle.kahn_streams.specs.declared.tree.Taking.TheVariants as T
use Rattle.kahn_streams.specs.declared.value.Failure.TheVariants.{Overflow, Division}

-- ---- stores

abbrev pub HoldsKind : Taking → Value → Type 0
HoldsKind (T.Channel d k) v = Unit {0}
HoldsKind (T.Value k) v = kind_of_value v ≡ k

-- each value of the store has the kind of its name
abbrev pub IsStored : List Taking → Store → Type 0
IsStored [] [] = Unit {0}
IsStored [] (v ∷ vs) = ⊥
IsStored (t ∷ ts) [] = ⊥
IsStored (t ∷ ts) (v ∷ vs) = HoldsKind t v × IsStored ts vs

holds : (t : Taking) (k : Kind) (v : Value) → HoldsKind t v → Some t ≡ Some (T.Value k) → kind_of_value v ≡ k
holds (T.Channel d j) k v h e = cc
holds (T.Value j) k v h e =
    let same : j ≡ k = cc in
    h ∙ same

held : (t : Taking) (k : Kind) (v : Value) → Some t ≡ Some (T.Value k) → kind_of_value v ≡ k → HoldsKind t v
held (T.Channel d j) k v e h = tt
held (T.Value j) k v e h =
    let same : j ≡ k = cc in
    h ∙ sym same

read_kept : (w : List Taking) (s : Store) (x : ℕ) (k : Kind) → IsStored w s → slice_get w x ≡ Some (T.Value k) → kind_of_value (read s x) ≡ k
read_kept [] [] x k h e = cc
read_kept (t ∷ ts) (v ∷ vs) zero k h e = holds t k v h.0 e
read_kept (t ∷ ts) (v ∷ vs) (suc x) k h e = read_kept ts vs x k h.1 e
read_kept _ _ x k h e = absurd h

set_kept : (w : List Taking) (s : Store) (x : ℕ) (k : Kind) (u : Value) → IsStored w s → slice_get w x ≡ Some (T.Value k) → kind_of_value u ≡ k →
    IsStored w (slice_set s x u)
set_kept [] [] x k u h e i = tt
set_kept (t ∷ ts) (v ∷ vs) zero k u h e i = (held t k u e i, h.1)
set_kept (t ∷ ts) (v ∷ vs) (suc x) k u h e i = (h.0, set_kept ts vs x k u h.1 e i)
set_kept _ _ x k u h e i = absurd h

-- ---- operators

-- a result, if there is one, has this kind
abbrev GivesKind : Kind → Result Value Failure → Type 0
GivesKind k (Ok v) = kind_of_value v ≡ k
GivesKind k (Err f) = Unit {0}

fits_by : (b : Bool) (z : ℤ) → GivesKind K.Integer (if b then Ok (Integer z) else Err Overflow)
fits_by true z = refl
fits_by false z = tt

ranged_kept : (z : ℤ) → GivesKind K.Integer (ranged z)
ranged_kept z = fits_by (fits_64 z) z

unless_zero : (b : Bool) (z : ℤ) → GivesKind K.Integer (if b then Err Division else ranged z)
unless_zero true z = tt
unless_zero false z = ranged_kept z

apply_kept : (o : Operator) (v u : Value) → GivesKind (gives o) (apply o v u)
apply_kept Add v u = ranged_kept (number v +ℤ number u)
apply_kept Subtract v u = ranged_kept (number v -ℤ number u)
apply_kept Multiply v u = ranged_kept (number v *ℤ number u)
apply_kept Divide v u = unless_zero (is_zero (number u)) (int_div (number v) (number u))
apply_kept Remainder v u = unless_zero (is_zero (number u)) (int_rem (number v) (number u))
apply_kept _ v u = refl

-- ---- scripts

-- a value that may be taken from this parameter, and one that may be sent there
abbrev pub IsTaken : List Taking → ℕ → Value → Type 0
IsTaken w q v = slice_get w q ≡ Some (T.Channel In (kind_of_value v))

abbrev pub IsSent : List Taking → Port × Value → Type 0
IsSent w (Parameter q, v) = slice_get w q ≡ Some (T.Channel Out (kind_of_value v))
IsSent w (Printer, v) = Unit {0}

abbrev pub IsIn : List Taking → ℕ → Type 0
IsIn w q = (k : Kind) × (slice_get w q ≡ Some (T.Channel In k))

-- It waits only where it may; and under C, as long as what it takes has the right kinds, what it sends has the right kinds.
abbrev pub IsKept : {A : Type 0} → Type 0 → List Taking → Script A → Type 0
IsKept C w (Give a) = Unit {0}
IsKept C w (Fail k) = Unit {0}
IsKept C w (Waits q go) = IsIn w q × ((v : Value) → (C → IsTaken w q v) → IsKept C w (go v))
IsKept C w (Sends p v s) = (C → IsSent w (p, v)) × IsKept C w s
IsKept C w (Turns s) = IsKept C w s
IsKept C w Rest = Unit {0}

settle_kept : {A : Type 0} (C : Type 0) (w : List Taking) (k : Kind) (r : Result Value Failure) (next : Value → Script A) → (C → GivesKind k r) →
    ((v : Value) → (C → kind_of_value v ≡ k) → IsKept C w (next v)) → IsKept C w (settle r next)
settle_kept C w k (Ok v) next h g = g v h
settle_kept C w k (Err f) next h g = tt

kept_by : {A : Type 0} (C : Type 0) (w : List Taking) (b : Bool) (s t : Script A) → IsKept C w s → IsKept C w t → IsKept C w (elim b [ true ↦ s | false ↦ t ])
kept_by C w true s t h i = h
kept_by C w false s t h i = i

pub constant_kept : (c : Constant) → kind_of_value (constant c) ≡ constant_kind c
constant_kept (Number z) = refl
constant_kept (Truth b) = refl

same_taken : (k j : Kind) (o : Option Taking) → o ≡ Some (T.Channel In k) → o ≡ Some (T.Channel In j) → j ≡ k
same_taken k j o h e = cc

value_kept : {A : Type 0} (C : Type 0) (w : List Taking) (e : Expr) (k : Kind) (s : Store) (next : Value → Script A) → HasKind w e k → (C → IsStored w s) →
    ((v : Value) → (C → kind_of_value v ≡ k) → IsKept C w (next v)) → IsKept C w (value_of e s next)
value_kept C w (Literal c) k s next h i g = g (constant c) (λ x. constant_kept c ∙ sym h)
value_kept C w (Variable x) k s next h i g = g (read s x) (λ y. read_kept w s x k (i y) h)
value_kept C w (Wait q) k s next h i g = ((k, h), λ v e. g v (λ y. same_taken k (kind_of_value v) (slice_get w q) h (e y)))
value_kept C w (Negate e) k s next h i g =
    value_kept C w e K.Integer s _ h.0 i (λ v j. settle_kept C w K.Integer (ranged (neg_ℤ (number v))) next (λ y. ranged_kept (neg_ℤ (number v))) (λ u l. g u (λ y. l y ∙ sym h.1)))
value_kept C w (Not e) k s next h i g = value_kept C w e K.Logical s _ h.0 i (λ v j. g (Logical (not (truth v))) (λ y. sym h.1))
value_kept C w (Binary o a b) k s next h i g =
    value_kept C w a h.0.0 s _ h.0.2 i (λ v j.
    value_kept C w b h.0.0 s _ h.0.3 i (λ u l.
    settle_kept C w (gives o) (apply o v u) next (λ y. apply_kept o v u) (λ x m. g x (λ y. m y ∙ sym h.1))))
value_kept C w (Conditional t a b) k s next h i g =
    value_kept C w t K.Logical s _ h.0 i (λ v j.
    kept_by C w (truth v) _ _ (value_kept C w a k s next h.1 i g) (value_kept C w b k s next h.2 i g))

-- a body that goes on from stores of the right kinds to such stores
abbrev Passes : {A X : Type 0} → Type 0 → List Taking → (X → Type 0) → (Store → (X → Script A) → Script A) → Type 0
Passes {A} {X} C w P f = (s : Store) (next : X → Script A) → (C → IsStored w s) → ((x : X) → (C → P x) → IsKept C w (next x)) → IsKept C w (f s next)

turns_kept : {A : Type 0} (C : Type 0) (w : List Taking) (k : ℕ) (test : Store → (Value → Script A) → Script A) (body : Store → (Store → Script A) → Script A) →
    Passes C w (λ v. kind_of_value v ≡ K.Logical) test → Passes C w (IsStored w) body → Passes C w (IsStored w) (turns_of k test body)
turns_kept C w zero test body ht hb s next i g = tt
turns_kept C w (suc k) test body ht hb s next i g =
    ht s _ i (λ v j. kept_by C w (truth v) _ _ (hb s _ i (λ r l. turns_kept C w k test body ht hb r next l g)) (g s i))

pub script_kept : {A : Type 0} (C : Type 0) (w : List Taking) (k : ℕ) (b : Stmt) (s : Store) (next : Store → Script A) → Agrees w b → (C → IsStored w s) →
    ((r : Store) → (C → IsStored w r) → IsKept C w (next r)) → IsKept C w (script_of k b s next)
script_kept C w k Skip s next h i g = g s i
script_kept C w k (Assign x e) s next h i g =
    value_kept C w e h.0 s _ h.2 i (λ v j. g (slice_set s x v) (λ y. set_kept w s x h.0 v (i y) h.1 (j y)))
script_kept C w k (Send e q) s next h i g =
    value_kept C w e h.0 s _ h.2 i (λ v j. ((λ y. subst (λ z. slice_get w q ≡ Some (T.Channel Out z)) (sym (j y)) h.1), g s i))
script_kept C w k (Print e) s next h i g = value_kept C w e h.0 s _ h.1 i (λ v j. ((λ y. tt), g s i))
script_kept C w k (Seq a b) s next h i g = script_kept C w k a s _ h.0 i (λ r j. script_kept C w k b r next h.1 j g)
script_kept C w k (If t a b) s next h i g =
    value_kept C w t K.Logical s _ h.0 i (λ v j.
    kept_by C w (truth v) _ _ (script_kept C w k a s next h.1 i g) (script_kept C w k b s next h.2 i g))
script_kept C w k (While t b) s next h i g =
    turns_kept C w k _ _ (λ r f j l. value_kept C w t K.Logical r f h.0 j l) (λ r f j l. script_kept C w k b r f h.1 j l) s next i g
script_kept C w k (Repeat b) s next h i g =
    turns_kept C w k _ _ (λ r f j l. l (Logical true) (λ y. refl)) (λ r f j l. script_kept C w k b r f h j l) s next i g

-- ---- runs

-- each tape has the kind of its parameter
abbrev pub AreTapesKept : List Taking → Tapes → Type 0
AreTapesKept w U = (q : ℕ) → AllByRecursion (IsTaken w q) (U q)

put_by : (w : List Taking) (U : Tapes) (q : ℕ) (vs : List Value) → AreTapesKept w U → AllByRecursion (IsTaken w q) vs → (r : ℕ) (b : Bool) → (r == q) ≡ b →
    AllByRecursion (IsTaken w r) (if b then vs else U r)
put_by w U q vs h i r true e = subst (λ x. AllByRecursion (IsTaken w x) vs) (sym (eqb-true r q e)) i
put_by w U q vs h i r false e = h r

wait_kept : {A : Type 0} (w : List Taking) (n q : ℕ) (U : Tapes) (vs : List Value) (go : ℕ → Value → Tapes → Reached A) →
    AreTapesKept w U → AllByRecursion (IsTaken w q) vs →
    ((m : ℕ) (v : Value) (V : Tapes) → IsTaken w q v → AreTapesKept w V → AllByRecursion (IsSent w) (go m v V).sent) →
    AllByRecursion (IsSent w) (wait_at n q U vs go).sent
wait_kept w n q U [] go h i step = tt
wait_kept w zero q U (v ∷ vs) go h i step = tt
wait_kept w (suc n) q U (v ∷ vs) go h i step = step n v (put U q vs) i.0 (λ r. put_by w U q vs h i.1 r (r == q) refl)

-- all that is sent has the kind of the parameter it is sent to
pub play_kept : {A : Type 0} (w : List Taking) (n : ℕ) (s : Script A) (U : Tapes) → IsKept (Unit {0}) w s → AreTapesKept w U →
    AllByRecursion (IsSent w) (play n s U).sent
play_kept w n (Waits q go) U h i =
    wait_kept w n q U (U q) (λ m v V. play m (go v) V) i (i q) (λ m v V e j. play_kept w m (go v) V (h.1 v (λ y. e)) j)
play_kept w (suc n) (Sends p v s) U h i = (h.0 tt, play_kept w n s U h.1 i)
play_kept w (suc n) (Turns s) U h i = play_kept w n s U h i
play_kept w n _ U h i = tt
