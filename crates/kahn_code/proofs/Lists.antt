-- Lists whose values stand.
use Rattle.std.proofs.Common.{slice_get, length-append}
use Rattle.kahn_code.proofs.Common.{arith, ◌≡◌, ◌⊎◌, inl, inr, ℕ, zero, suc, ◌<◌, ◌≤◌, max, List, [], ◌∷◌, length, map, refl, sym, ap, ◌∙◌, subst, Some, None, le_refl, eq-or-lt_of_le, le_of_suc-le-suc, ◌+◌, ◌++◌, pos, drop, take, slice_index_or, cases_lt, handed_within, slice_get-get_or, slice_get_within, map-append, length-map, Schema, Actual, Reads, Writes, Hands, network_of, instance_at, actual_at, Written, Value, Integer, Line, Channel, Token, Tapes, Inputs, iterate, IsPrefix, Stands, tapes_of, goes_to, values_at, source, out, exec_at, some_same, prefix_get, prefix_refl, prefix_trans, iterates_rise, feeds, solves, script_at, values_append, AreInputsExtended, IsOf, Lists, inputs_of, Program, AllStand, AreKeptTokens, exec_on, sent_on, IsOwn, token_value, fun_ext}
use Rattle.kahn_streams.proofs.Framed.{Begins, and_more, grows_play}

-- a list all of whose values stand in another begins it
pub found_in : (xs ys : List Value) → ((k : ℕ) (v : Value) → slice_get xs k ≡ Some v → slice_get ys k ≡ Some v) → IsPrefix xs ys
found_in [] ys h = (ys, refl)
found_in (x ∷ xs) [] h = let e : None ≡ Some x = h zero x refl in absurd cc
found_in (x ∷ xs) (y ∷ ys) h =
    let r = found_in xs ys (λ k. h (suc k)) in
    (r.0, ap (λ l. y ∷ l) r.1 ∙ ap (λ z. z ∷ (xs ++ r.0)) (some_same (h zero x refl)))

-- one number is enough for all of them
enough : (P : ℕ → ℕ → Type 0) → ((n m k : ℕ) → n ≤ m → P n k → P m k) → (b : ℕ) → ((k : ℕ) → k < b → (n : ℕ) × P n k) → (n : ℕ) × ((k : ℕ) → k < b → P n k)
enough P rise zero h = (0, λ k lt. absurd (omega (arith, lt)))
enough P rise (suc b) h = join (h b (omega arith)) (enough P rise b (λ k lt. h k (omega (arith, lt))))
  where
    by : (one : (n : ℕ) × P n b) (rest : (n : ℕ) × ((k : ℕ) → k < b → P n k)) (k : ℕ) → (k ≡ b) ⊎ (k < b) → P (max one.0 rest.0) k
    by one rest k (inl e) = subst (P (max one.0 rest.0)) (sym e) (rise one.0 (max one.0 rest.0) b (omega arith) one.1)
    by one rest k (inr lt) = rise rest.0 (max one.0 rest.0) k (omega arith) (rest.1 k lt)

    join : ((n : ℕ) × P n b) → ((n : ℕ) × ((k : ℕ) → k < b → P n k)) → (n : ℕ) × ((k : ℕ) → k < suc b → P n k)
    join one rest = (max one.0 rest.0, λ k lt. by one rest k (eq-or-lt_of_le (le_of_suc-le-suc lt)))

-- values that stand begin an iterate
pub stand_in : (N : Schema) (I : Inputs) (c : Line) (xs : List Value) → AllStand N I c xs → (n : ℕ) × IsPrefix xs (iterate N I n c)
stand_in N I c xs h =
    let r : (n : ℕ) × ((k : ℕ) → k < length xs → (v : Value) → slice_get xs k ≡ Some v → slice_get (iterate N I n c) k ≡ Some v) =
    enough (λ n k. (v : Value) → slice_get xs k ≡ Some v → slice_get (iterate N I n c) k ≡ Some v)
    (λ n m k le f v e. prefix_get (iterate N I n c) (iterate N I m c) (iterates_rise N I n m le c) k v (f v e)) (length xs)
    (λ k lt. let at = slice_get-get_or xs k (Integer (pos 0)) lt in let s = h k _ at in (s.0, λ v e. s.1 ∙ sym at ∙ e))
    in
    (r.0, found_in xs (iterate N I r.0 c) (λ k v e. r.1 k (slice_get_within xs k v e) v e))

-- ---- what is sent on tapes whose values stand, stands

module _ (N : Schema) (I : Inputs) (p : ℕ) (T : Tapes) (stand : (q d : ℕ) → actual_at (instance_at N p) q ≡ Reads d → AllStand N I (Channel d) (T q)) (none : (q : ℕ) → ((d : ℕ) → actual_at (instance_at N p) q ≡ Reads d → ⊥) → T q ≡ []) where
  abbrev Begun : ℕ → ℕ → Type 0
  Begun m q = IsPrefix (T q) (tapes_of (instance_at N p) (iterate N I m) q)

  nothing_begun : (m q : ℕ) → T q ≡ [] → Begun m q
  nothing_begun m q e = (tapes_of (instance_at N p) (iterate N I m) q, ap (λ l. l ++ tapes_of (instance_at N p) (iterate N I m) q) (sym e))

  one_begun : (q : ℕ) → (m : ℕ) × Begun m q
  one_begun q = by (actual_at (instance_at N p) q) refl
    where
      by : (a : Actual) → actual_at (instance_at N p) q ≡ a → (m : ℕ) × Begun m q
      by (Reads d) e = let r = stand_in N I (Channel d) (T q) (stand q d e) in (r.0, rw e r.1)
      by (Writes d) e = (0, nothing_begun 0 q (none q (λ b f. let g : Writes d ≡ Reads b = sym e ∙ f in cc)))
      by (Hands v) e = (0, nothing_begun 0 q (none q (λ b f. let g : Hands v ≡ Reads b = sym e ∙ f in cc)))

  more_begun : (n m q : ℕ) → n ≤ m → Begun n q → Begun m q
  more_begun n m q le h = prefix_trans _ _ _ h (feeds (instance_at N p) (iterate N I n) (iterate N I m) (iterates_rise N I n m le) q)

  all_begun : (m : ℕ) × ((q : ℕ) → Begun m q)
  all_begun = by (enough Begun more_begun (length (instance_at N p).actuals) (λ q lt. one_begun q))
    where
      each : (r : (m : ℕ) × ((q : ℕ) → q < length (instance_at N p).actuals → Begun m q)) (q : ℕ) → (q < length (instance_at N p).actuals) ⊎ (length (instance_at N p).actuals ≤ q) → Begun r.0 q
      each r q (inl lt) = r.1 q lt
      each r q (inr le) = nothing_begun r.0 q (none q (λ d e. let lt = (handed_within N p q d (rw e refl)).1 in omega (arith, le, lt)))

      by : ((m : ℕ) × ((q : ℕ) → q < length (instance_at N p).actuals → Begun m q)) → (m : ℕ) × ((q : ℕ) → Begun m q)
      by r = (r.0, λ q. each r q (cases_lt q (length (instance_at N p).actuals)))

  pub sent_stands : (n k : ℕ) (c : Line) (v : Value) → source N c ≡ Written p → slice_get (sent_on N n p T c) k ≡ Some v → Stands N I c k v
  sent_stands n k c v s e =
      let m = all_begun.0 in
      let more : Tapes = λ q. (all_begun.1 q).0 in
      let tapes : tapes_of (instance_at N p) (iterate N I m) ≡ and_more T more = fun_ext (λ q. (all_begun.1 q).1) in
      let b : Begins (exec_on N n p T).sent (exec_at N n p (iterate N I m)).sent = rw tapes (grows_play n n (script_at N n p) T more (le_refl n)) in
      let begins : IsPrefix (sent_on N n p T c) (out N n p (iterate N I m) c) =
      (values_at (goes_to N p c) b.0, ap (values_at (goes_to N p c)) b.1 ∙ values_append (goes_to N p c) (exec_on N n p T).sent b.0)
      in
      (suc (max n m), prefix_get _ _ (prefix_trans _ _ _ begins (solves N I c p n m s)) k v e)

-- ---- one more

-- a place of a list with one more at its end
pub at_last : {A : Type 0} (xs : List A) (x : A) (k : ℕ) (y : A) → slice_get (xs ++ x ∷ []) k ≡ Some y → (slice_get xs k ≡ Some y) ⊎ ((k ≡ length xs) × (x ≡ y))
at_last [] x zero y e = inr (refl, let f : x ≡ y = cc in f)
at_last [] x (suc k) y e = absurd cc
at_last (z ∷ xs) x zero y e = inl e
at_last (z ∷ xs) x (suc k) y e = by (at_last xs x k y e)
  where
    by : (slice_get xs k ≡ Some y) ⊎ ((k ≡ length xs) × (x ≡ y)) → (slice_get (z ∷ xs) (suc k) ≡ Some y) ⊎ ((suc k ≡ suc (length xs)) × (x ≡ y))
    by (inl h) = inl h
    by (inr h) = inr (ap suc h.0, h.1)

-- a token of this network and this input
pub own_of : (t : Program) (lists : Lists) (u : Token) → IsOf t lists u → IsOwn (network_of t) (inputs_of lists) u
own_of t lists u h = (
  ap network_of h.0,
  subst (λ i. AreInputsExtended (inputs_of i) (inputs_of lists)) (sym h.1) (λ c. prefix_refl (inputs_of lists c)),
)

-- for an input whose lists are longer
pub own_grown : (N : Schema) (I J : Inputs) (t : Token) → AreInputsExtended I J → IsOwn N I t → IsOwn N J t
own_grown N I J t grown h = (h.0, λ c. prefix_trans _ _ _ (h.1 c) (grown c))

pub kept_grown : (N : Schema) (I J : Inputs) (c : Line) (vs : List Value) (ts : List Token) → AreInputsExtended I J → AreKeptTokens N I c vs ts → AreKeptTokens N J c vs ts
kept_grown N I J c vs ts grown h = record { values = h.values; places = h.places; own = λ k t e. own_grown N I J t grown (h.own k t e) }

pub kept_none : (N : Schema) (I : Inputs) (c : Line) → AreKeptTokens N I c [] []
kept_none N I c = record { values = refl; places = λ k t e. absurd cc; own = λ k t e. absurd cc }

pub kept_long : (N : Schema) (I : Inputs) (c : Line) (vs : List Value) (ts : List Token) → AreKeptTokens N I c vs ts → length ts ≡ length vs
kept_long N I c vs ts h = sym (length-map ts token_value) ∙ ap length h.values

pub kept_push : (N : Schema) (I : Inputs) (c : Line) (vs : List Value) (ts : List Token) (v : Value) (t : Token) → AreKeptTokens N I c vs ts → t.line ≡ c → t.place ≡ length vs → t.value ≡ v → IsOwn N I t →
    AreKeptTokens N I c (vs ++ v ∷ []) (ts ++ t ∷ [])
kept_push N I c vs ts v t h l p w o =
    record {
      values = map-append token_value ts (t ∷ []) ∙ ap (λ x. map token_value ts ++ x ∷ []) w ∙ ap (λ xs. xs ++ v ∷ []) h.values;
      places = λ k u e. by k u (at_last ts t k u e);
      own = λ k u e. owned k u (at_last ts t k u e);
    }
  where
    size : length vs ≡ length ts
    size = ap length (sym h.values) ∙ length-map ts token_value

    by : (k : ℕ) (u : Token) → (slice_get ts k ≡ Some u) ⊎ ((k ≡ length ts) × (t ≡ u)) → (u.line ≡ c) × (u.place ≡ k)
    by k u (inl e) = h.places k u e
    by k u (inr e) = (ap (λ x. x.line) (sym e.1) ∙ l, ap (λ x. x.place) (sym e.1) ∙ p ∙ size ∙ sym e.0)

    owned : (k : ℕ) (u : Token) → (slice_get ts k ≡ Some u) ⊎ ((k ≡ length ts) × (t ≡ u)) → IsOwn N I u
    owned k u (inl e) = h.own k u e
    owned k u (inr e) = subst (IsOwn N I) e.1 o

-- ---- lists that are built one by one

-- the first so many, each with what holds of it
pub record AreFirst {B : Type 0} (P : ℕ → B → Type 0) (xs : List B) (n : ℕ) : Type 0 where
  pub count : length xs ≡ n
  pub each : (k : ℕ) (b : B) → slice_get xs k ≡ Some b → P k b

pub none_first : {B : Type 0} (P : ℕ → B → Type 0) (xs : List B) → xs ≡ [] → AreFirst P xs 0
none_first P xs e = record { count = ap length e; each = λ k b h. let f : slice_get [] k ≡ Some b = ap (λ l. slice_get l k) (sym e) ∙ h in absurd cc }

pub one_first : {B : Type 0} (P : ℕ → B → Type 0) (xs more : List B) (b : B) (n : ℕ) → AreFirst P xs n → more ≡ xs ++ b ∷ [] → P n b → AreFirst P more (n + 1)
one_first {B = B} P xs more b n h e i = record {
  count = let l = ap length e ∙ length-append xs (b ∷ []) in omega (arith, l, h.count);
  each = λ k c at. by k c (at_last xs b k c (subst (λ l. slice_get l k ≡ Some c) e at));
}
  where
    by : (k : ℕ) (c : B) → (slice_get xs k ≡ Some c) ⊎ ((k ≡ length xs) × (b ≡ c)) → P k c
    by k c (inl at) = h.each k c at
    by k c (inr at) = subst (P k) at.1 (subst (λ k. P k b) (sym (at.0 ∙ h.count)) i)

-- of a list of which the first are changed the next one is as it was
pub changed_next : {X : Type 0} (f : X → X) (old : List X) (i : ℕ) (x : X) → i < length old → x ≡ slice_index_or (map f (take i old) ++ drop i old) i x → slice_get old i ≡ Some x
changed_next f [] i x l e = absurd (omega (arith, l))
changed_next f (y ∷ old) zero x l e = ap Some (sym e)
changed_next f (y ∷ old) (suc i) x l e = changed_next f old i x (omega (arith, l)) e
