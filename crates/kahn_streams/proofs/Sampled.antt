-- The history on X of the sample network.
use Rattle.kahn_streams.proofs.Common.{◌≡◌, ℕ, zero, suc, ◌+◌, ◌-◌, ◌%◌, ◌≤◌, true, List, ◌∷◌, ◌++◌, length, refl, sym, ap, ◌∙◌, subst, slice_get, Some, pos, arith, fun_ext, Value, Line, Integer, Logical, Channel, Parameter, Printer, Tapes, Script, Give, play, Store, turns_of, script_of, Step, Took, Sent, Turned, Follows, here, took, sent, turned, values_taken, sends_of, and_then, Schema, instance_at, Written, Histories, tapes_of, out, values_at, goes_to, iterate, IsPrefix, Stands, source, le-max_left, le-max_right, max, ne_eqb, ◌==◌, if◌then◌else◌, []}
use Rattle.kahn_streams.specs.Syntax as S
use Rattle.kahn_streams.proofs.{Proved.values_append, Proved.prefix_trans, Proved.prefix_get, Proved.script_at, Proved.solves, Proved.one_value, Proved.iterates_rise, Runs.play_on, Runs.follows_append, Framed.and_more}
use Rattle.kahn_streams.specs.Sample.{no_input, f_turn, g_turn, h_turn, sample_network, Sample}

abbrev number : ℕ → Value
number n = Integer (pos n)

-- ---- steps that a process can do are done in some iterate

and_then_rest : (steps : List Step) (n : ℕ) → and_then steps n ≡ length steps + n
and_then_rest [] n = omega arith
and_then_rest (x ∷ steps) n = omega (arith, and_then_rest steps n)

sends_lower : (N : Schema) (p m : ℕ) (H : Histories) (steps : List Step) (s' : Script Store) → Follows (script_at N m p) steps s' →
    length steps ≤ m → ((q : ℕ) → IsPrefix (values_taken steps q) (tapes_of (instance_at N p) H q)) → (c : Line) →
    IsPrefix (values_at (goes_to N p c) (sends_of steps)) (out N m p H c)
sends_lower N p m H steps s' f le h c =
    let U : Tapes = λ q. (h q).0 in
    let e : and_then steps (m - length steps) ≡ m = omega (arith, and_then_rest steps (m - length steps)) in
    let t : tapes_of (instance_at N p) H ≡ and_more (values_taken steps) U = fun_ext (λ q. (h q).1) in
    let r : (play m (script_at N m p) (tapes_of (instance_at N p) H)).sent ≡ sends_of steps ++ (play (m - length steps) s' U).sent =
    ap (λ T. (play m (script_at N m p) T).sent) t ∙
    (ap (λ k. (play k (script_at N m p) (and_more (values_taken steps) U)).sent) (sym e) ∙
    ap (λ x. x.sent) (play_on f (m - length steps) U))
    in (
      values_at (goes_to N p c) (play (m - length steps) s' U).sent,
      ap (values_at (goes_to N p c)) r ∙ values_append (goes_to N p c) (sends_of steps) (play (m - length steps) s' U).sent,
    )

-- ---- the loops of f, g and h

-- from their values, unrolled to k turns
abbrev loop : S.Stmt → ℕ → ℕ → Store → Script Store
loop b m k s = turns_of k (λ r go. go (Logical true)) (λ r go. script_of m b r go) s Give

-- so many more turns of the loop for each of a rounds
abbrev rounds : (ℕ → ℕ) → ℕ → ℕ → ℕ
rounds more zero k = k
rounds more (suc a) k = more (rounds more a k)

abbrev two_more : ℕ → ℕ
two_more k = suc (suc k)

abbrev one_more : ℕ → ℕ
one_more k = suc k

more_rounds : (more : ℕ → ℕ) → ((k : ℕ) → k ≤ more k) → (a k : ℕ) → k ≤ rounds more a k
more_rounds more h zero k = omega arith
more_rounds more h (suc a) k = omega (arith, h (rounds more a k), more_rounds more h a k)

abbrev repeated : {A : Type 0} → List A → ℕ → List A
repeated xs zero = []
repeated xs (suc a) = xs ++ repeated xs a

abbrev alternating : ℕ → List Value
alternating a = repeated (number 0 ∷ number 1 ∷ []) a

abbrev all_of : ℕ → ℕ → List Value
all_of c a = repeated (number c ∷ []) a

abbrev f_store : Value → Store
f_store i = number 0 ∷ number 0 ∷ number 0 ∷ i ∷ Logical true ∷ []

abbrev f_steps : List Step
f_steps =
    Turned ∷ Took 0 (number 0) ∷ Sent Printer (number 0) ∷ Sent (Parameter 2) (number 0) ∷
    Turned ∷ Took 1 (number 1) ∷ Sent Printer (number 1) ∷ Sent (Parameter 2) (number 1) ∷ []

abbrev g_steps : List Step
g_steps =
    Turned ∷ Took 0 (number 0) ∷ Sent (Parameter 1) (number 0) ∷
    Turned ∷ Took 0 (number 1) ∷ Sent (Parameter 2) (number 1) ∷ []

abbrev h_store : ℕ → Value → Store
h_store c i = number 0 ∷ number 0 ∷ number c ∷ i ∷ []

abbrev h_steps : ℕ → List Step
h_steps c = Turned ∷ Took 0 (number c) ∷ Sent (Parameter 1) (number c) ∷ []

all_rounds : (b : S.Stmt) (store : Value → Store) (steps : List Step) (more : ℕ → ℕ) (v : Value) (m : ℕ) →
    ((k : ℕ) (i : Value) → Follows (loop b m (more k) (store i)) steps (loop b m k (store v))) → (a k : ℕ) (i : Value) →
    (j : Value) × Follows (loop b m (rounds more a k) (store i)) (repeated steps a) (loop b m k (store j))
all_rounds b store steps more v m one zero k i = (i, here)
all_rounds b store steps more v m one (suc a) k i =
    let r = all_rounds b store steps more v m one a k v in (r.0, follows_append (one (rounds more a k) i) r.1)

-- ---- what the steps take and send

-- what each round gives
along : (f : List Step → List Value) (steps : List Step) (ys : List Value) → f [] ≡ [] → ((rest : List Step) → f (steps ++ rest) ≡ ys ++ f rest) → (a : ℕ) →
    f (repeated steps a) ≡ repeated ys a
along f steps ys e one zero = e
along f steps ys e one (suc a) = one (repeated steps a) ∙ ap (λ l. ys ++ l) (along f steps ys e one a)

none_along : (f : List Step → List Value) (steps : List Step) → f [] ≡ [] → ((rest : List Step) → f (steps ++ rest) ≡ f rest) → (a : ℕ) → f (repeated steps a) ≡ []
none_along f steps e one zero = e
none_along f steps e one (suc a) = one (repeated steps a) ∙ none_along f steps e one a

no_take : (q p : ℕ) (v : Value) (xs : List Value) → (q ≡ p → ⊥) → (if q == p then v ∷ xs else xs) ≡ xs
no_take q p v xs h = rw (ne_eqb q p h) refl

-- ---- the histories grow

abbrev Has : ℕ → List Value → Type 0
Has c xs = (j : ℕ) × IsPrefix xs (iterate sample_network no_input j (Channel c))

lower : (p m n : ℕ) (steps : List Step) (s' : Script Store) → Follows (script_at sample_network m p) steps s' → length steps ≤ m →
    ((q : ℕ) → IsPrefix (values_taken steps q) (tapes_of (instance_at sample_network p) (iterate sample_network no_input n) q)) →
    (c : ℕ) → source sample_network (Channel c) ≡ Written p →
    Has c (values_at (goes_to sample_network p (Channel c)) (sends_of steps))
lower p m n steps s' f le h c e = (
  suc (max m n),
  prefix_trans _ _ _
      (sends_lower sample_network p m (iterate sample_network no_input n) steps s' f le h (Channel c))
      (solves sample_network no_input (Channel c) p m n e),
)

nothing : (xs ys : List Value) → xs ≡ [] → IsPrefix xs ys
nothing xs ys e = (ys, rw e refl)

x_of : (a n : ℕ) → IsPrefix (all_of 0 a) (iterate sample_network no_input n (Channel 1)) →
    IsPrefix (all_of 1 a) (iterate sample_network no_input n (Channel 2)) → Has 0 (alternating a)
x_of a n y z =
    let k = length (repeated f_steps a) in
    let m = rounds two_more a k in
    subst (Has 0) (along (λ l. values_at (goes_to sample_network 0 (Channel 0)) (sends_of l)) f_steps (number 0 ∷ number 1 ∷ []) refl (λ l. refl) a)
    (lower 0 m n (repeated f_steps a) _
    (all_rounds f_turn f_store f_steps two_more (number 1) m (λ k i. turned (took (sent (sent (turned (took (sent (sent here)))))))) a k (number 0)).1 (more_rounds two_more (λ k. omega arith) a k) feeds 0 refl)
  where
    feeds : (q : ℕ) → IsPrefix (values_taken (repeated f_steps a) q) (tapes_of (instance_at sample_network 0) (iterate sample_network no_input n) q)
    feeds zero = let e : values_taken (repeated f_steps a) 0 ≡ all_of 0 a = along (λ l. values_taken l 0) f_steps (number 0 ∷ []) refl (λ l. refl) a in rw e y
    feeds (suc zero) = let e : values_taken (repeated f_steps a) 1 ≡ all_of 1 a = along (λ l. values_taken l 1) f_steps (number 1 ∷ []) refl (λ l. refl) a in rw e z
    feeds (suc (suc q)) =
        nothing _ _ (none_along (λ l. values_taken l (suc (suc q))) f_steps refl
        (λ l. no_take (suc (suc q)) 0 _ _ (omega arith) ∙ no_take (suc (suc q)) 1 _ _ (omega arith)) a)

-- the first tape alone
fed_first : (p n : ℕ) (steps : List Step) (xs : List Value) → values_taken steps 0 ≡ xs → ((q : ℕ) → values_taken steps (suc q) ≡ []) →
    IsPrefix xs (tapes_of (instance_at sample_network p) (iterate sample_network no_input n) 0) →
    (q : ℕ) → IsPrefix (values_taken steps q) (tapes_of (instance_at sample_network p) (iterate sample_network no_input n) q)
fed_first p n steps xs e f x zero = rw e x
fed_first p n steps xs e f x (suc q) = nothing _ _ (f q)

t_of : (c : ℕ) (xs : List Value) (a : ℕ) → source sample_network (Channel c) ≡ Written 1 →
    ((l : List Step) → values_at (goes_to sample_network 1 (Channel c)) (sends_of (g_steps ++ l)) ≡ xs ++ values_at (goes_to sample_network 1 (Channel c)) (sends_of l)) →
    Has 0 (alternating a) → Has c (repeated xs a)
t_of c xs a written one x =
    let k = length (repeated g_steps a) in
    let m = rounds two_more a k in
    subst (Has c) (along (λ l. values_at (goes_to sample_network 1 (Channel c)) (sends_of l)) g_steps xs refl one a)
    (lower 1 m x.0 (repeated g_steps a) _
    (all_rounds g_turn f_store g_steps two_more (number 1) m (λ k i. turned (took (sent (turned (took (sent here)))))) a k (number 0)).1 (more_rounds two_more (λ k. omega arith) a k)
    (fed_first 1 x.0 (repeated g_steps a) (alternating a) (along (λ l. values_taken l 0) g_steps (number 0 ∷ number 1 ∷ []) refl (λ l. refl) a)
    (λ q. none_along (λ l. values_taken l (suc q)) g_steps refl (λ l. no_take (suc q) 0 _ _ (omega arith) ∙ no_take (suc q) 0 _ _ (omega arith)) a) x.1) c written)

-- what h takes, from a tape with its values
h_feeds : (p n a c : ℕ) → IsPrefix (all_of c a) (tapes_of (instance_at sample_network p) (iterate sample_network no_input n) 0) →
    (q : ℕ) → IsPrefix (values_taken (repeated (h_steps c) a) q) (tapes_of (instance_at sample_network p) (iterate sample_network no_input n) q)
h_feeds p n a c x =
    fed_first p n (repeated (h_steps c) a) (all_of c a) (along (λ l. values_taken l 0) (h_steps c) (number c ∷ []) refl (λ l. refl) a)
    (λ q. none_along (λ l. values_taken l (suc q)) (h_steps c) refl (λ l. no_take (suc q) 0 _ _ (omega arith)) a) x

y_of : (a : ℕ) → Has 3 (all_of 0 a) → Has 1 (all_of 0 (suc a))
y_of a t =
    let k = suc (length (repeated (h_steps 0) a)) in
    let m = rounds one_more a k in
    subst (Has 1) (ap (λ l. number 0 ∷ l) (along (λ l. values_at (goes_to sample_network 2 (Channel 1)) (sends_of l)) (h_steps 0) (number 0 ∷ []) refl (λ l. refl) a))
    (lower 2 m t.0 (Sent (Parameter 1) (number 0) ∷ repeated (h_steps 0) a) _
    (sent (all_rounds h_turn (h_store 0) (h_steps 0) one_more (number 0) m (λ k i. turned (took (sent here))) a k (number 0)).1)
    (more_rounds one_more (λ k. omega arith) a k) (h_feeds 2 t.0 a 0 t.1) 1 refl)

z_of : (a : ℕ) → Has 4 (all_of 1 a) → Has 2 (all_of 1 (suc a))
z_of a t =
    let k = suc (length (repeated (h_steps 1) a)) in
    let m = rounds one_more a k in
    subst (Has 2) (ap (λ l. number 1 ∷ l) (along (λ l. values_at (goes_to sample_network 3 (Channel 2)) (sends_of l)) (h_steps 1) (number 1 ∷ []) refl (λ l. refl) a))
    (lower 3 m t.0 (Sent (Parameter 1) (number 1) ∷ repeated (h_steps 1) a) _
    (sent (all_rounds h_turn (h_store 1) (h_steps 1) one_more (number 1) m (λ k i. turned (took (sent here))) a k (number 0)).1)
    (more_rounds one_more (λ k. omega arith) a k) (h_feeds 3 t.0 a 1 t.1) 2 refl)

at_most_max : (c j k : ℕ) (xs : List Value) → IsPrefix xs (iterate sample_network no_input j (Channel c)) → j ≤ k →
    IsPrefix xs (iterate sample_network no_input k (Channel c))
at_most_max c j k xs h le = prefix_trans _ _ _ h (iterates_rise sample_network no_input j k le (Channel c))

pub x_all : (a : ℕ) → Has 0 (alternating a)
x_all zero = (0, ([], refl))
x_all (suc a) =
    let x = x_all a in
    let y = y_of a (t_of 3 (number 0 ∷ []) a refl (λ l. refl) x) in
    let z = z_of a (t_of 4 (number 1 ∷ []) a refl (λ l. refl) x) in
    x_of (suc a) (max y.0 z.0)
    (at_most_max 1 y.0 (max y.0 z.0) (all_of 0 (suc a)) y.1 (le-max_left y.0 z.0))
    (at_most_max 2 z.0 (max y.0 z.0) (all_of 1 (suc a)) z.1 (le-max_right y.0 z.0))

alternating_at : (k a : ℕ) → suc k ≤ a → slice_get (alternating a) k ≡ Some (number (k % 2))
alternating_at k zero le = absurd (omega (arith, le))
alternating_at zero (suc a) le = refl
alternating_at (suc zero) (suc a) le = refl
alternating_at (suc (suc k)) (suc a) le =
    let e : k % 2 ≡ suc (suc k) % 2 = omega arith in
    alternating_at k a (omega (arith, le)) ∙ ap (λ r. Some (number r)) e

stands : (k : ℕ) → Stands sample_network no_input (Channel 0) k (number (k % 2))
stands k = let x = x_all (suc k) in (x.0, prefix_get (alternating (suc k)) _ x.1 k _ (alternating_at k (suc k) (omega arith)))

pub sample : Sample
sample k v = (
  λ h. one_value sample_network no_input (Channel 0) k v (number (k % 2)) h (stands k),
  λ e. subst (Stands sample_network no_input (Channel 0) k) (sym e) (stands k),
)
