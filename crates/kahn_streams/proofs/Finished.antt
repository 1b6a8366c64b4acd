-- A quiet network has the whole solution.
use Rattle.kahn_streams.proofs.Common.{fun_ext, arith, ◌≡◌, ℕ, zero, suc, ◌+◌, ◌≤◌, max, List, ◌∷◌, ◌++◌, refl, sym, ap, ◌∙◌, subst, append-nil, le_refl, le_trans, le_of_suc-le-suc, not-suc-le-zero, suc-le-suc, Some, pos, le-max_left, le-max_right, Value, Line, Channel, Number, Stmt, Tapes, Script, Give, Fail, Waits, Sends, Turns, Rest, ScriptOutcome, Got, Dry, Fault, Cut, Reached, after_event, after_send, put, wait_at, play, Store, exec, script_of, Schema, Node, Hands, instance_at, Source, Given, Written, Nobody, IsWhole, Histories, Inputs, tapes_of, exec_at, out, values_at, goes_to, source, fed, input_list, iterate, IsPrefix, HasEnd, HasSizes, none_left, one_more, Ending, ending, AreInputsExtended, IsExtended, IsSolution, InputsGrow, SendsStand, IsQuiet, IsSettled, IsCounted, IsUnrolled, SaysSoAgain, IsDetermined, []}
use Rattle.std.proofs.lemmas.Option.{same_Some}
use Rattle.kahn_streams.specs.declared.value.Line.TheVariants.{Print}
use Rattle.kahn_streams.proofs.{Fuel.gives, Fuel.play_alike, Fuel.script_alike, Runs.cut_is_full}
use Rattle.kahn_streams.proofs.Proved.{prefix_refl, prefix_trans, prefix_get, Feeds, feeds, script_at, exec_alike, out_grows, chain, least, solves, iterates_rise, fits_all}

-- ---- more events change nothing where the outcome isn't cut

more_wait : {A : Type 0} (n m q : ℕ) (T : Tapes) (vs : List Value) (go : ℕ → Value → Tapes → Reached A) → n ≤ m →
    ((i j : ℕ) (v : Value) (U : Tapes) → i ≤ j → ((go i v U).outcome ≡ Cut → ⊥) → go j v U ≡ go i v U) →
    ((wait_at n q T vs go).outcome ≡ Cut → ⊥) → wait_at m q T vs go ≡ wait_at n q T vs go
more_wait n m q T [] go le step h = refl
more_wait zero m q T (v ∷ vs) go le step h = absurd (h refl)
more_wait (suc n) zero q T (v ∷ vs) go le step h = absurd (not-suc-le-zero le)
more_wait (suc n) (suc m) q T (v ∷ vs) go le step h = ap after_event (step n m v (put T q vs) (le_of_suc-le-suc le) h)

more_play : {A : Type 0} (n m : ℕ) (s : Script A) (T : Tapes) → n ≤ m → ((play n s T).outcome ≡ Cut → ⊥) → play m s T ≡ play n s T
more_play n m (Give a) T le h = refl
more_play n m (Fail k) T le h = refl
more_play n m (Waits q go) T le h =
    more_wait n m q T (T q) (λ i v U. play i (go v) U) le (λ i j v U le' h'. more_play i j (go v) U le' h') h
more_play (suc n) zero (Sends p v s) T le h = absurd (not-suc-le-zero le)
more_play (suc n) (suc m) (Sends p v s) T le h = ap (after_send p v) (more_play n m s T (le_of_suc-le-suc le) h)
more_play (suc n) zero (Turns s) T le h = absurd (not-suc-le-zero le)
more_play (suc n) (suc m) (Turns s) T le h = ap after_event (more_play n m s T (le_of_suc-le-suc le) h)
more_play n m _ T le h = absurd (h refl)

pub more_events : (N : Schema) (n m p : ℕ) (H : Histories) → n ≤ m → ((exec_at N n p H).outcome ≡ Cut → ⊥) →
    exec_at N m p H ≡ exec_at N n p H
more_events N n m p H le h =
    let a : exec_at N n p H ≡ play n (script_at N m p) (tapes_of (instance_at N p) H) =
    play_alike (exec_alike N n m p le) (tapes_of (instance_at N p) H)
    in
    more_play n m (script_at N m p) (tapes_of (instance_at N p) H) le (λ e. h (ap (λ r. r.outcome) a ∙ e)) ∙ sym a

pub more_exec : (b : Stmt) (s : Store) (n m : ℕ) (T : Tapes) → n ≤ m → ((exec n b s T).outcome ≡ Cut → ⊥) → exec m b s T ≡ exec n b s T
more_exec b s n m T le h =
    let a : exec n b s T ≡ play n (script_of m b s Give) T = play_alike (script_alike n n m b (le_refl n) le s Give Give (λ r. gives)) T in
    more_play n m (script_of m b s Give) T le (λ e. h (ap (λ r. r.outcome) a ∙ e)) ∙ sym a

pub says_so_again : (b : Stmt) → SaysSoAgain b
says_so_again b n k s T h = more_exec b s n (n + k) T (omega arith) h

over : {A : Type 0} (o : ScriptOutcome A) (x : Ending) → ending o ≡ Some x → o ≡ Cut → ⊥
over (Got a) x e f = absurd cc
over _ x e f = absurd cc

-- ---- prefixes both ways

no_rest : (xs ys zs : List Value) → xs ≡ xs ++ ys ++ zs → ys ≡ []
no_rest xs [] zs e = refl
no_rest [] (y ∷ ys) zs e = absurd cc
no_rest (x ∷ xs) (y ∷ ys) zs e = let tail : xs ≡ xs ++ (y ∷ ys) ++ zs = cc in no_rest xs (y ∷ ys) zs tail

pub prefix_antisym : (xs ys : List Value) → IsPrefix xs ys → IsPrefix ys xs → ys ≡ xs
prefix_antisym xs ys h g =
    let e : xs ≡ xs ++ h.0 ++ g.0 = g.1 ∙ ap (λ l. l ++ g.0) h.1 in
    h.1 ∙ (ap (λ l. xs ++ l) (no_rest xs h.0 g.0 e) ∙ append-nil xs)

-- ---- quiet histories

module _ (N : Schema) (I : Inputs) (A : Histories) (o : ℕ → Ending) (e : ℕ → ℕ) (quiet : IsQuiet N I A o e) where
  same_exec : (p n : ℕ) → e p ≤ n → exec_at N n p A ≡ exec_at N (e p) p A
  same_exec p n le = more_events N (e p) n p A le (over (exec_at N (e p) p A).outcome (o p) (quiet.ends p))

  closed : (c : Line) (p n : ℕ) → source N c ≡ Written p → IsPrefix (out N n p A c) (A c)
  closed c p n s =
      let k = max n (e p) in
      let same : out N k p A c ≡ A c =
      ap (λ r. values_at (goes_to N p c) r.sent) (same_exec p k (le-max_right n (e p))) ∙ quiet.sends c p s
      in
      subst (IsPrefix (out N n p A c)) same
      (out_grows N n k p A A c (le-max_left n (e p)) (feeds (instance_at N p) A A (λ d. prefix_refl (A d))))

  solution : IsSolution N I (λ m. A)
  solution =
      record {
        grows = λ m c. prefix_refl (A c);
        begins = λ c s. subst (IsPrefix (input_list I c)) (sym (quiet.inputs c s)) (prefix_refl (input_list I c));
        closed = λ c p n m s. (0, closed c p n s);
      }

  below : (n : ℕ) → IsExtended (iterate N I n) A
  below n c = (least N I (λ m. A) solution n c).1

  settled_end : (p : ℕ) → HasEnd N I p (o p) (e p)
  settled_end p = (max all.0 (e p), from)
    where
      all : (j : ℕ) × Feeds (instance_at N p) A (iterate N I j)
      all = fits_all (iterate N I) A (chain N I) quiet.reached (Hands (Number (pos 0))) (instance_at N p).actuals

      same_tapes : (n : ℕ) → all.0 ≤ n → tapes_of (instance_at N p) (iterate N I n) ≡ tapes_of (instance_at N p) A
      same_tapes n le =
          fun_ext (λ q. prefix_antisym _ _
          (prefix_trans _ _ _ (all.1 q) (feeds (instance_at N p) (iterate N I all.0) (iterate N I n) (iterates_rise N I all.0 n le) q))
          (feeds (instance_at N p) (iterate N I n) A (below n) q))

      same : (n : ℕ) → max all.0 (e p) ≤ n → exec_at N n p (iterate N I n) ≡ exec_at N (e p) p A
      same n le =
          ap (play n (script_at N n p)) (same_tapes n (le_trans (le-max_left all.0 (e p)) le)) ∙
          same_exec p n (le_trans (le-max_right all.0 (e p)) le)

      from : (n : ℕ) → max all.0 (e p) ≤ n →
          (ending (exec_at N n p (iterate N I n)).outcome ≡ Some (o p)) × ((exec_at N n p (iterate N I n)).events ≡ e p)
      from n le =
          (ap (λ r. ending r.outcome) (same n le) ∙ quiet.ends p, ap (λ r. r.events) (same n le) ∙ quiet.counts p)

  pub settled : IsSettled N I A o e
  settled = (λ c. (quiet.reached c, λ n. below n c), settled_end)

-- ---- what is sent stands

pub sends_stand : (N : Schema) (I : Inputs) → SendsStand N I
sends_stand N I n m p H h c s k v g = (
  suc (max n m),
  prefix_get _ _
      (prefix_trans _ _ _ (out_grows N n n p H (iterate N I m) c (le_refl n) h) (solves N I c p n m s))
      k v g,
)

-- ---- longer inputs

given_grows : (N : Schema) (I J : Inputs) → AreInputsExtended I J → (c : Line) → IsPrefix (input_list I c) (input_list J c)
given_grows N I J h (Channel c) = h c
given_grows N I J h (Print p) = prefix_refl []

fed_both : (N : Schema) (I J : Inputs) → AreInputsExtended I J → (src : Source) (f g : ℕ → List Value) (c : Line) →
    ((p : ℕ) → IsPrefix (f p) (g p)) → IsPrefix (fed src I f c) (fed src J g c)
fed_both N I J h Given f g c k = given_grows N I J h c
fed_both N I J h (Written p) f g c k = k p
fed_both N I J h Nobody f g c k = prefix_refl []

pub inputs_grow : (N : Schema) → InputsGrow N
inputs_grow N I J h zero c = fed_both N I J h (source N c) _ _ c (λ p. prefix_refl [])
inputs_grow N I J h (suc n) c =
    fed_both N I J h (source N c) _ _ c (λ p.
    out_grows N n n p (iterate N I n) (iterate N J n) c (le_refl n)
    (feeds (instance_at N p) (iterate N I n) (iterate N J n) (λ d. inputs_grow N I J h n d)))

-- ---- counts

within_wait : {A : Type 0} (n q : ℕ) (T : Tapes) (vs : List Value) (go : ℕ → Value → Tapes → Reached A) →
    ((m : ℕ) (v : Value) (U : Tapes) → (go m v U).events ≤ m) → (wait_at n q T vs go).events ≤ n
within_wait n q T [] go h = omega arith
within_wait zero q T (v ∷ vs) go h = omega arith
within_wait (suc n) q T (v ∷ vs) go h = suc-le-suc (h n v (put T q vs))

within_play : {A : Type 0} (n : ℕ) (s : Script A) (T : Tapes) → (play n s T).events ≤ n
within_play n (Waits q go) T = within_wait n q T (T q) (λ m v U. play m (go v) U) (λ m v U. within_play m (go v) U)
within_play (suc n) (Sends p v s) T = suc-le-suc (within_play n s T)
within_play (suc n) (Turns s) T = suc-le-suc (within_play n s T)
within_play n _ T = omega arith

pub counted : (N : Schema) (n p : ℕ) (H : Histories) → IsCounted N n p H
counted N n p H =
    record {
      within = within_play n (script_at N n p) (tapes_of (instance_at N p) H);
      full = cut_is_full (exec_alike N n n p (le_refl n)) (tapes_of (instance_at N p) H);
    }

pub unrolled : (b : Stmt) → IsUnrolled b
unrolled b n k s T le = play_alike (script_alike n k n b le (le_refl n) s Give Give (λ r. gives)) T

-- ---- one whole, one end

one_whole : (N : Schema) (I : Inputs) (c : Line) (L M : List Value) → IsWhole N I c L → IsWhole N I c M → L ≡ M
one_whole N I c L M h g =
    prefix_antisym M L
    (prefix_trans _ _ _ g.0.1 (h.1 g.0.0))
    (prefix_trans _ _ _ h.0.1 (g.1 h.0.0))

one_end : (N : Schema) (I : Inputs) (p e f : ℕ) (o x : Ending) → HasEnd N I p o e → HasEnd N I p x f → (o ≡ x) × (e ≡ f)
one_end N I p e f o x h g =
    let n = max h.0 g.0 in
    let a = h.1 n (le-max_left h.0 g.0) in
    let b = g.1 n (le-max_right h.0 g.0) in
    (same_Some o x (sym a.0 ∙ b.0), sym a.1 ∙ b.1)

one_size : (N : Schema) (I : Inputs) (p : ℕ) (is : List Node) (a b : ℕ) → HasSizes N I p is a → HasSizes N I p is b → a ≡ b
one_size N I p [] _ _ none_left none_left = refl
one_size N I p (i ∷ is) _ _ (one_more {o = o} {e = e} {total = total} h hs) (one_more {o = x} {e = f} {total = sum} g gs) =
    omega (arith, (one_end N I p e f o x h g).1, one_size N I (suc p) is total sum hs gs)

pub determined : (N : Schema) (I : Inputs) → IsDetermined N I
determined N I =
    record {
      one_whole = one_whole N I;
      one_end = one_end N I;
      one_size = one_size N I 0 N.instances;
    }
