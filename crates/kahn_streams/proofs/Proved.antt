-- The laws of the meaning, proved.
use Rattle.kahn_streams.proofs.Common.{fun_ext, ◌≡◌, ◌⊎◌, ℕ, zero, suc, ◌≤◌, ◌<◌, max, Bool, true, false, List, ◌∷◌, ◌++◌, refl, sym, ap, ◌∙◌, subst, inl, inr, append_assoc, append-nil, le_refl, eq-or-lt_of_le, le_of_suc-le-suc, not-suc-le-zero, arith, slice_index_or, slice_get, Some, pos, if◌then◌else◌, le-max_left, le-max_right, Value, Line, Channel, Number, Port, Tapes, Script, Give, ScriptOutcome, Got, Dry, Fault, Cut, Reached, play, Store, script_of, Schema, Node, Actual, Reads, Writes, Hands, instance_at, actual_at, Source, Given, Written, Nobody, Histories, Inputs, opening, tape_of, tapes_of, exec_at, out, values_at, goes_to, source, fed, input_list, iterate, IsPrefix, IsExtended, IsChain, HasOneValue, IsSolved, IsSolution, IsBelow, AreSame, KeepsTape, Frame, []}
use Rattle.kahn_streams.proofs.Framed.{and_more, widened, cut_short, Stays, frame_play, dry_play, Begins, begins_nil, grows_play}
use Rattle.kahn_streams.proofs.Fuel.{Alike, gives, script_alike, play_alike}

-- ---- prefixes

pub some_same : {v w : Value} → Some v ≡ Some w → v ≡ w
some_same e = cc

pub prefix_refl : (xs : List Value) → IsPrefix xs xs
prefix_refl xs = ([], sym (append-nil xs))

pub prefix_trans : (xs ys zs : List Value) → IsPrefix xs ys → IsPrefix ys zs → IsPrefix xs zs
prefix_trans xs ys zs h g = (h.0 ++ g.0, g.1 ∙ (ap (λ l. l ++ g.0) h.1 ∙ append_assoc xs h.0 g.0))

get_append : (xs zs : List Value) (k : ℕ) (v : Value) → slice_get xs k ≡ Some v → slice_get (xs ++ zs) k ≡ Some v
get_append [] zs k v e = absurd cc
get_append (x ∷ xs) zs zero v e = e
get_append (x ∷ xs) zs (suc k) v e = get_append xs zs k v e

pub prefix_get : (xs ys : List Value) → IsPrefix xs ys → (k : ℕ) (v : Value) → slice_get xs k ≡ Some v → slice_get ys k ≡ Some v
prefix_get xs ys h k v e = rw h.1 (get_append xs h.0 k v e)

-- ---- tapes

abbrev pub Feeds : Node → Histories → Histories → Type 0
Feeds i H G = (q : ℕ) → IsPrefix (tapes_of i H q) (tapes_of i G q)

feeds_at : (H G : Histories) → IsExtended H G → (a : Actual) → IsPrefix (tape_of H a) (tape_of G a)
feeds_at H G h (Reads c) = h (Channel c)
feeds_at H G h (Writes c) = begins_nil []
feeds_at H G h (Hands v) = begins_nil []

pub feeds : (i : Node) (H G : Histories) → IsExtended H G → Feeds i H G
feeds i H G h q = feeds_at H G h (actual_at i q)

abbrev more_of : (i : Node) (H G : Histories) → Feeds i H G → Tapes
more_of i H G h q = (h q).0

tapes_more : (i : Node) (H G : Histories) (h : Feeds i H G) → tapes_of i G ≡ and_more (tapes_of i H) (more_of i H G h)
tapes_more i H G h = fun_ext (λ q. (h q).1)

-- ---- sends

append_by : (b : Bool) (v : Value) (xs ys zs : List Value) → ys ≡ xs ++ zs →
    (if b then v ∷ ys else ys) ≡ (if b then v ∷ xs else xs) ++ zs
append_by true v xs ys zs e = ap (λ l. v ∷ l) e
append_by false v xs ys zs e = e

pub values_append : (here : Port → Bool) (xs zs : List (Port × Value)) →
    values_at here (xs ++ zs) ≡ values_at here xs ++ values_at here zs
values_append here [] zs = refl
values_append here (x ∷ xs) zs =
    append_by (here x.0) x.1 (values_at here xs) (values_at here (xs ++ zs)) (values_at here zs) (values_append here xs zs)

abbrev pub script_at : Schema → ℕ → ℕ → Script Store
script_at N k p = script_of k (instance_at N p).body (opening (instance_at N p)) Give

pub exec_alike : (N : Schema) (n m p : ℕ) → n ≤ m → Alike n (script_at N n p) (script_at N m p)
exec_alike N n m p le = script_alike n n m (instance_at N p).body (le_refl n) le (opening (instance_at N p)) Give Give (λ r. gives)

pub exec_grows : (N : Schema) (n m p : ℕ) (H G : Histories) → n ≤ m → Feeds (instance_at N p) H G →
    Begins (exec_at N n p H).sent (exec_at N m p G).sent
exec_grows N n m p H G le h =
    rw (tapes_more (instance_at N p) H G h, play_alike (exec_alike N n m p le) (tapes_of (instance_at N p) H))
    (grows_play n m (script_at N m p) (tapes_of (instance_at N p) H) (more_of (instance_at N p) H G h) le)

pub out_grows : (N : Schema) (n m p : ℕ) (H G : Histories) (c : Line) → n ≤ m → Feeds (instance_at N p) H G →
    IsPrefix (out N n p H c) (out N m p G c)
out_grows N n m p H G c le h =
    let b : Begins (exec_at N n p H).sent (exec_at N m p G).sent = exec_grows N n m p H G le h in
    (values_at (goes_to N p c) b.0, ap (values_at (goes_to N p c)) b.1 ∙ values_append (goes_to N p c) (exec_at N n p H).sent b.0)

-- ---- the iterates

fed_grows : (src : Source) (I : Inputs) (f g : ℕ → List Value) (c : Line) → ((p : ℕ) → src ≡ Written p → IsPrefix (f p) (g p)) →
    IsPrefix (fed src I f c) (fed src I g c)
fed_grows Given I f g c h = prefix_refl (input_list I c)
fed_grows (Written p) I f g c h = h p refl
fed_grows Nobody I f g c h = prefix_refl []

pub chain : (N : Schema) (I : Inputs) → IsChain N I
chain N I zero c = fed_grows (source N c) I _ _ c (λ p e. begins_nil _)
chain N I (suc n) c =
    fed_grows (source N c) I _ _ c (λ p e.
    out_grows N n (suc n) p (iterate N I n) (iterate N I (suc n)) c (omega arith)
    (feeds (instance_at N p) (iterate N I n) (iterate N I (suc n)) (λ d. chain N I n d)))

rises_by : (T : ℕ → Histories) → ((m : ℕ) (c : Line) → IsPrefix (T m c) (T (suc m) c)) → (n m : ℕ) (c : Line) →
    (n ≡ suc m) ⊎ (n < suc m) → (n ≤ m → IsPrefix (T n c) (T m c)) → IsPrefix (T n c) (T (suc m) c)
rises_by T step n m c (inl e) f = subst (λ k. IsPrefix (T n c) (T k c)) e (prefix_refl (T n c))
rises_by T step n m c (inr l) f = prefix_trans (T n c) (T m c) (T (suc m) c) (f (le_of_suc-le-suc l)) (step m c)

-- histories, each a prefix of the next, also over several steps
rises : (T : ℕ → Histories) → ((m : ℕ) (c : Line) → IsPrefix (T m c) (T (suc m) c)) →
    (n m : ℕ) → n ≤ m → (c : Line) → IsPrefix (T n c) (T m c)
rises T step zero zero le c = prefix_refl (T zero c)
rises T step (suc n) zero le c = absurd (not-suc-le-zero le)
rises T step n (suc m) le c = rises_by T step n m c (eq-or-lt_of_le le) (λ l. rises T step n m l c)

pub iterates_rise : (N : Schema) (I : Inputs) (n m : ℕ) → n ≤ m → IsExtended (iterate N I n) (iterate N I m)
iterates_rise N I n m le c = rises (iterate N I) (chain N I) n m le c

-- ---- one value

pub one_value : (N : Schema) (I : Inputs) → HasOneValue N I
one_value N I c k v w h g =
    let a : slice_get (iterate N I (max h.0 g.0) c) k ≡ Some v =
    prefix_get _ _ (iterates_rise N I h.0 (max h.0 g.0) (le-max_left h.0 g.0) c) k v h.1
    in
    let b : slice_get (iterate N I (max h.0 g.0) c) k ≡ Some w =
    prefix_get _ _ (iterates_rise N I g.0 (max h.0 g.0) (le-max_right h.0 g.0) c) k w g.1
    in
    some_same (sym a ∙ b)

-- ---- it is a solution

solves_by : (N : Schema) (I : Inputs) (c : Line) (p j : ℕ) (src : Source) → src ≡ Written p →
    fed src I (λ r. out N j r (iterate N I j) c) c ≡ out N j p (iterate N I j) c
solves_by N I c p j src e = rw e refl

pub solves : (N : Schema) (I : Inputs) → IsSolved N I
solves N I c p n m e =
    rw (solves_by N I c p (max n m) (source N c) e)
    (out_grows N n (max n m) p (iterate N I m) (iterate N I (max n m)) c (le-max_left n m)
    (feeds (instance_at N p) _ _ (iterates_rise N I m (max n m) (le-max_right n m))))

-- ---- it is the least

abbrev Below : (ℕ → Histories) → Histories → Line → Type 0
Below T H c = (j : ℕ) × IsPrefix (H c) (T j c)

fits_one : (T : ℕ → Histories) (H : Histories) → ((c : Line) → Below T H c) → (a : Actual) →
    (j : ℕ) × IsPrefix (tape_of H a) (tape_of (T j) a)
fits_one T H h (Reads c) = h (Channel c)
fits_one T H h (Writes c) = (0, begins_nil [])
fits_one T H h (Hands v) = (0, begins_nil [])

tape_rises : (T : ℕ → Histories) → ((m : ℕ) (c : Line) → IsPrefix (T m c) (T (suc m) c)) →
    (n m : ℕ) → n ≤ m → (a : Actual) → IsPrefix (tape_of (T n) a) (tape_of (T m) a)
tape_rises T step n m le a = feeds_at (T n) (T m) (rises T step n m le) a

join_fits : (T : ℕ → Histories) (H : Histories) → ((m : ℕ) (c : Line) → IsPrefix (T m c) (T (suc m) c)) →
    (d a : Actual) (rest : List Actual) → ((j : ℕ) × IsPrefix (tape_of H a) (tape_of (T j) a)) →
    ((j : ℕ) × ((q : ℕ) → IsPrefix (tape_of H (slice_index_or rest q d)) (tape_of (T j) (slice_index_or rest q d)))) →
    (j : ℕ) × ((q : ℕ) → IsPrefix (tape_of H (slice_index_or (a ∷ rest) q d)) (tape_of (T j) (slice_index_or (a ∷ rest) q d)))
join_fits T H step d a rest one all = (max one.0 all.0, each)
  where
    each : (q : ℕ) → IsPrefix (tape_of H (slice_index_or (a ∷ rest) q d)) (tape_of (T (max one.0 all.0)) (slice_index_or (a ∷ rest) q d))
    each zero = prefix_trans _ _ _ one.1 (tape_rises T step one.0 (max one.0 all.0) (le-max_left one.0 all.0) a)
    each (suc q) =
        prefix_trans _ _ _ (all.1 q) (tape_rises T step all.0 (max one.0 all.0) (le-max_right one.0 all.0) (slice_index_or rest q d))

-- one place of the solution is enough for all parameters
pub fits_all : (T : ℕ → Histories) (H : Histories) → ((m : ℕ) (c : Line) → IsPrefix (T m c) (T (suc m) c)) → ((c : Line) → Below T H c) →
    (d : Actual) (actuals : List Actual) →
    (j : ℕ) × ((q : ℕ) → IsPrefix (tape_of H (slice_index_or actuals q d)) (tape_of (T j) (slice_index_or actuals q d)))
fits_all T H step h d [] = let one : (j : ℕ) × IsPrefix (tape_of H d) (tape_of (T j) d) = fits_one T H h d in (one.0, λ q. one.1)
fits_all T H step h d (a ∷ rest) =
    join_fits T H step d a rest (fits_one T H h a) (fits_all T H step h d rest)

least_by : (N : Schema) (I : Inputs) (T : ℕ → Histories) → IsSolution N I T → (n : ℕ) → ((c : Line) → Below T (iterate N I n) c) →
    (c : Line) (src : Source) → source N c ≡ src →
    (j : ℕ) × IsPrefix (fed src I (λ p. out N n p (iterate N I n) c) c) (T j c)
least_by N I T s n h c Given e = (0, s.begins c e)
least_by N I T s n h c Nobody e = (0, begins_nil _)
least_by N I T s n h c (Written p) e =
    let all = fits_all T (iterate N I n) s.grows h (Hands (Number (pos 0))) (instance_at N p).actuals in
    let there = s.closed c p n all.0 e in
    (there.0, prefix_trans _ _ _ (out_grows N n n p (iterate N I n) (T all.0) c (le_refl n) all.1) there.1)

least_first : (N : Schema) (I : Inputs) (T : ℕ → Histories) → IsSolution N I T → (c : Line) (src : Source) → source N c ≡ src →
    (j : ℕ) × IsPrefix (fed src I (λ p. []) c) (T j c)
least_first N I T s c Given e = (0, s.begins c e)
least_first N I T s c Nobody e = (0, begins_nil _)
least_first N I T s c (Written p) e = (0, begins_nil _)

pub least : (N : Schema) (I : Inputs) (T : ℕ → Histories) → IsSolution N I T → IsBelow N I T
least N I T s zero c = least_first N I T s c (source N c) refl
least N I T s (suc n) c = least_by N I T s n (λ d. least N I T s n d) c (source N c) refl

-- ---- longer tapes

no_more : (xs zs : List Value) → xs ≡ xs ++ zs → zs ≡ []
no_more [] zs e = sym e
no_more (x ∷ xs) zs e = let same : xs ≡ xs ++ zs = cc in no_more xs zs same

same_reached : {A : Type 0} (U : Tapes) (a b : Reached A) → a ≡ widened U b → AreSame a b
same_reached U a b e = (ap (λ r. r.outcome) e, ap (λ r. r.events) e, ap (λ r. r.sent) e)

cut_reached : {A : Type 0} (U : Tapes) (n : ℕ) (a b : Reached A) → a ≡ cut_short U b → b.events ≡ n →
    (a.outcome ≡ Cut) × (a.events ≡ n) × (a.sent ≡ b.sent)
cut_reached U n a b e f = (ap (λ r. r.outcome) e, ap (λ r. r.events) e ∙ f, ap (λ r. r.sent) e)

stays_of : {A : Type 0} (i : Node) (H G : Histories) (h : Feeds i H G) (o : ScriptOutcome A) →
    KeepsTape i H G o → Stays (more_of i H G h) o
stays_of i H G h (Dry q) k = no_more (tapes_of i H q) (h q).0 (sym k ∙ (h q).1)
stays_of i H G h _ k = tt

pub frame : (N : Schema) → Frame N
frame N n p H G x =
    let i = instance_at N p in
    let h : Feeds i H G = feeds i H G x in
    record {
      kept = λ k. same_reached (more_of i H G h) (exec_at N n p G) (exec_at N n p H) (ap (λ T. play n (script_at N n p) T) (tapes_more i H G h) ∙ frame_play n (script_at N n p) (tapes_of i H) (more_of i H G h) (stays_of i H G h (exec_at N n p H).outcome k));
      cut = λ q e longer f. cut_reached (more_of i H G h) n (exec_at N n p G) (exec_at N n p H) (ap (λ T. play n (script_at N n p) T) (tapes_more i H G h) ∙ dry_play n (script_at N n p) (tapes_of i H) (more_of i H G h) q (λ u. longer ((h q).1 ∙ (rw u (append-nil (tapes_of i H q))))) e f) f;
      grows = exec_grows N n n p H G (le_refl n) h;
    }
