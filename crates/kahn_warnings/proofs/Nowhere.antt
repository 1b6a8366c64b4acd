-- A body without a place never ends with that fault.
use Rattle.kahn_warnings.proofs.Common.{Action, Actual, AllByRecursion, AreNumbersOf64, AreOf64Bits, AreWrittenIn64, Assign, Binary, Block', Bool, Bracket', Channel, Conditional, Conditional', ConstantSite, Err, Expr, Fail, Failure, Fault, Faulted, FaultsLie, Form, Give, Given, HasEnd, Held-Action-If-2, Histories, If, If', Inputs, Integer, IsOf64Bits, IsOperand, IsWrittenIn64, Level', Line, List, Literal, Logical, Negate, Negate', Schema, Nobody, None, None', Not, Not', Ok, Operator, Option, Port, Print, Reached, Reads, Repeat, Repeat', Rest, Result, Row_of-Operand, Row_of-Statement, Scope, Script, ScriptOutcome, Send, Sends, Seq, Skip, Some, Some', Source, Span, Statement, Stmt, Store, Subtract, Tapes, Turns, Unequal, Value, Variable, Wait, Waits, While, While', Written, [], action_sites, actual_at, ap, apply, arith, body_of, chosen, combined, constant, constant_of, else_of, else_sites, end_of-Operand, end_of-Statement, ending, exec, exec_at, expr_of, false, fault_places, fed, flat_map, form_sites, from_0, goes_to, if◌then◌else◌, input_list, instance_at, iterate, level_of, level_sites, more_of-Operand, more_of-Statement, neg_ℤ, not, number, opening, operator_can, out, place_where, play, pos, put, ranged, read, refl, result_ok, row_of, row_sites, script_of, settle, site_places, slice_set, source, stmt_of, subst, suc, sym, tape_of, tapes_of, true, truth, turns_of, value_of, values_at, wait_at, truly, zero, ℕ, ◌++◌, ◌==◌, ◌∙◌, ◌∷◌, ◌≡◌}
use Rattle.kahn_streams.specs.declared.tree.Action as action
use Rattle.kahn_streams.specs.declared.value.Line.TheVariants as line
use Rattle.kahn_warnings.proofs.Holding.{taken_from_0, told_from_true}
use Rattle.kahn_warnings.proofs.Innocent as innocent

-- ---- expressions and statements none of whose operators can have such a fault

abbrev IsInnocent : Failure → Expr → Type 0
IsInnocent k (Literal c) = Unit {0}
IsInnocent k (Variable x) = Unit {0}
IsInnocent k (Wait q) = Unit {0}
IsInnocent k (Negate e) = IsInnocent k e × ((v : Value) → IsOperand (constant_of e) v → ranged (neg_ℤ (number v)) ≡ Err k → ⊥)
IsInnocent k (Not e) = IsInnocent k e
IsInnocent k (Binary o a b) =
    IsInnocent k a × IsInnocent k b × ((v w : Value) → IsOperand (constant_of a) v → IsOperand (constant_of b) w → apply o v w ≡ Err k → ⊥)
IsInnocent k (Conditional t a b) = IsInnocent k t × IsInnocent k a × IsInnocent k b

abbrev AreInnocent : Failure → Stmt → Type 0
AreInnocent k Skip = Unit {0}
AreInnocent k (Assign x e) = IsInnocent k e
AreInnocent k (Send e q) = IsInnocent k e
AreInnocent k (Print e) = IsInnocent k e
AreInnocent k (Seq a b) = AreInnocent k a × AreInnocent k b
AreInnocent k (If t a b) = IsInnocent k t × AreInnocent k a × AreInnocent k b
AreInnocent k (While t a) = IsInnocent k t × AreInnocent k a
AreInnocent k (Repeat a) = AreInnocent k a

-- ---- scripts without such faults, which send values of 64 bits as long as they take such

abbrev AreShort : List Value → Type 0
AreShort vs = AllByRecursion IsOf64Bits vs

short_of : (o : Option Value) (v : Value) → IsOperand o v → IsOf64Bits v
short_of None v p = p
short_of (Some u) v p = p.0

combined_is : (o : Operator) (l r : Option Value) (v w u : Value) → IsOperand l v → IsOperand r w → apply o v w ≡ Ok u → IsOperand (combined o l r) u
combined_is o None r v w u p q e = innocent.apply_short o v w u e
combined_is o (Some a) None v w u p q e = innocent.apply_short o v w u e
combined_is o (Some a) (Some b) v w u p q e =
    subst (λ x. IsOperand (result_ok x) u) (sym e ∙ (λ i. apply o (p.1 i) (q.1 i))) (innocent.apply_short o v w u e, refl)

negated_is : (o : Option Value) (v u : Value) → IsOperand o v → ranged (neg_ℤ (number v)) ≡ Ok u → IsOperand (combined Subtract from_0 o) u
negated_is o v u p e = combined_is Subtract from_0 o (Integer (pos 0)) v u (refl, refl) p (sym (taken_from_0 v) ∙ e)

inverted_is : (o : Option Value) (v : Value) → IsOperand o v → IsOperand (combined Unequal o truly) (Logical (not (truth v)))
inverted_is o v p = combined_is Unequal o truly v (Logical true) _ p (refl, refl) (told_from_true v)

read_short : (s : Store) (x : ℕ) → AreShort s → IsOf64Bits (read s x)
read_short [] x h = refl
read_short (v ∷ vs) zero h = h.0
read_short (v ∷ vs) (suc x) h = read_short vs x h.1

set_short : (s : Store) (x : ℕ) (u : Value) → AreShort s → IsOf64Bits u → AreShort (slice_set s x u)
set_short [] x u h i = tt
set_short (v ∷ vs) zero u h i = (i, h.1)
set_short (v ∷ vs) (suc x) u h i = (h.0, set_short vs x u h.1 i)

put_short : (T : Tapes) (q : ℕ) (vs : List Value) → ((r : ℕ) → AreShort (T r)) → AreShort vs → (r : ℕ) → AreShort (put T q vs r)
put_short T q vs h i r = by (r == q)
  where
    by : (c : Bool) → AreShort (if c then vs else T r)
    by true = i
    by false = h r

abbrev AreSentIn64 : List (Port × Value) → Type 0
AreSentIn64 xs = AllByRecursion (λ x. IsOf64Bits x.1) xs

-- B says which faults
module _ (B : Failure → Type 0) where
  abbrev IsFree : {A : Type 0} → Script A → Type 0
  IsFree (Give a) = Unit {0}
  IsFree (Fail j) = B j → ⊥
  IsFree (Waits q go) = (v : Value) → IsOf64Bits v → IsFree (go v)
  IsFree (Sends p v c) = IsOf64Bits v × IsFree c
  IsFree (Turns c) = IsFree c
  IsFree Rest = Unit {0}

  abbrev Goes : {A : Type 0} → (Store → Script A) → Type 0
  Goes next = (r : Store) → AreShort r → IsFree (next r)

  settle_free : {A : Type 0} (r : Result Value Failure) (next : Value → Script A) → ((j : Failure) → B j → r ≡ Err j → ⊥) → ((v : Value) → r ≡ Ok v → IsFree (next v)) →
      IsFree (settle r next)
  settle_free (Ok v) next h g = g v refl
  settle_free (Err j) next h g = λ b. h j b refl

  either_free : {A : Type 0} (c : Bool) (x y : Script A) → IsFree x → IsFree y → IsFree (elim c [ true ↦ x | false ↦ y ])
  either_free true x y p q = p
  either_free false x y p q = q

  value_free : {A : Type 0} (e : Expr) (s : Store) (next : Value → Script A) → ((j : Failure) → B j → IsInnocent j e) → IsWrittenIn64 e → AreShort s →
      ((v : Value) → IsOperand (constant_of e) v → IsFree (next v)) → IsFree (value_of e s next)
  value_free (Literal c) s next i h p g = g (constant c) (h, refl)
  value_free (Variable x) s next i h p g = g (read s x) (read_short s x p)
  value_free (Wait q) s next i h p g = g
  value_free (Negate e) s next i h p g =
      value_free e s _ (λ j b. (i j b).0) h p
      (λ v l. settle_free (ranged (neg_ℤ (number v))) next (λ j b. (i j b).1 v l) (λ u is. g u (negated_is (constant_of e) v u l is)))
  value_free (Not e) s next i h p g = value_free e s _ i h p (λ v l. g (Logical (not (truth v))) (inverted_is (constant_of e) v l))
  value_free (Binary o a b) s next i h p g =
      value_free a s _ (λ j is. (i j is).0) h.0 p (λ v l. value_free b s _ (λ j is. (i j is).1) h.1 p (λ w m.
      settle_free (apply o v w) next (λ j is. (i j is).2 v w l m) (λ u is. g u (combined_is o (constant_of a) (constant_of b) v w u l m is))))
  value_free {A = A} (Conditional t a b) s next i h p g =
      value_free t s _ (λ j is. (i j is).0) h.0 p
      (λ v l. by (constant_of t) v l (value_free a s next (λ j is. (i j is).1) h.1 p) (value_free b s next (λ j is. (i j is).2) h.2 p) g)
    where
      On : Option Value → Type 0
      On o = (u : Value) → IsOperand o u → IsFree (next u)

      taken : (c : Bool) → (On (constant_of a) → IsFree (value_of a s next)) → (On (constant_of b) → IsFree (value_of b s next))
          → On (if c then constant_of a else constant_of b) → IsFree (elim c [ true ↦ value_of a s next | false ↦ value_of b s next ])
      taken true first second f = first f
      taken false first second f = second f

      by : (o : Option Value) (v : Value) → IsOperand o v → (On (constant_of a) → IsFree (value_of a s next)) → (On (constant_of b) → IsFree (value_of b s next))
          → On (chosen o (constant_of a) (constant_of b)) → IsFree (elim (truth v) [ true ↦ value_of a s next | false ↦ value_of b s next ])
      by None v j first second f = either_free (truth v) _ _ (first (λ u l. f u (short_of (constant_of a) u l))) (second (λ u l. f u (short_of (constant_of b) u l)))
      by (Some c) v j first second f =
          subst (λ x. IsFree (elim (truth x) [ true ↦ value_of a s next | false ↦ value_of b s next ])) (sym j.1) (taken (truth c) first second f)

  -- ---- statements

  turns_free : {A : Type 0} (j : ℕ) (test : Store → (Value → Script A) → Script A) (body : Store → (Store → Script A) → Script A)
      → ((s : Store) (go : Value → Script A) → AreShort s → ((v : Value) → IsFree (go v)) → IsFree (test s go))
      → ((s : Store) (go : Store → Script A) → AreShort s → Goes go → IsFree (body s go))
      → (s : Store) (next : Store → Script A) → AreShort s → Goes next → IsFree (turns_of j test body s next)
  turns_free zero test body p q s next h g = tt
  turns_free (suc j) test body p q s next h g = p s _ h (λ v. either_free (truth v) _ _ (q s _ h (λ r i. turns_free j test body p q r next i g)) (g s h))

  script_free : {A : Type 0} (n : ℕ) (b : Stmt) (s : Store) (next : Store → Script A) → ((j : Failure) → B j → AreInnocent j b) → AreWrittenIn64 b → AreShort s → Goes next
      → IsFree (script_of n b s next)
  script_free n Skip s next i h p g = g s p
  script_free n (Assign x e) s next i h p g = value_free e s _ i h p (λ v j. g (slice_set s x v) (set_short s x v p (short_of (constant_of e) v j)))
  script_free n (Send e q) s next i h p g = value_free e s _ i h p (λ v j. (short_of (constant_of e) v j, g s p))
  script_free n (Print e) s next i h p g = value_free e s _ i h p (λ v j. (short_of (constant_of e) v j, g s p))
  script_free n (Seq a b) s next i h p g =
      script_free n a s _ (λ j is. (i j is).0) h.0 p (λ r m. script_free n b r next (λ j is. (i j is).1) h.1 m g)
  script_free n (If t a b) s next i h p g =
      value_free t s _ (λ j is. (i j is).0) h.0 p (λ v l. either_free (truth v) _ _ (script_free n a s next (λ j is. (i j is).1) h.1 p g)
      (script_free n b s next (λ j is. (i j is).2) h.2 p g))
  script_free n (While t a) s next i h p g =
      turns_free n (λ r go. value_of t r go) (λ r go. script_of n a r go) (λ r go m f. value_free t r go (λ j is. (i j is).0) h.0 m (λ v l. f v))
      (λ r go m f. script_free n a r go (λ j is. (i j is).1) h.1 m f) s next p g
  script_free n (Repeat a) s next i h p g =
      turns_free n (λ r go. go (Logical true)) (λ r go. script_of n a r go) (λ r go m f. f (Logical true)) (λ r go m f. script_free n a r go i h m f) s next p g

  -- no such fault came, and what is sent
  abbrev CameFree : {A : Type 0} → Reached A → Type 0
  CameFree r = ((k : Failure) → r.outcome ≡ Fault k → B k → ⊥) × AreSentIn64 r.sent

  taken_free : {A : Type 0} (n q : ℕ) (T : Tapes) (vs : List Value) (go : ℕ → Value → Tapes → Reached A) → ((r : ℕ) → AreShort (T r)) → AreShort vs
      → ((m : ℕ) (v : Value) (U : Tapes) → IsOf64Bits v → ((r : ℕ) → AreShort (U r)) → CameFree (go m v U)) → CameFree (wait_at n q T vs go)
  taken_free n q T [] go h i f = (λ k e b. cc, tt)
  taken_free zero q T (v ∷ vs) go h i f = (λ k e b. cc, tt)
  taken_free (suc n) q T (v ∷ vs) go h i f = f n v (put T q vs) i.0 (put_short T q vs h i.1)

  failed : {A : Type 0} (j k : Failure) → (B j → ⊥) → ◌≡◌ {A = ScriptOutcome A} (Fault j) (Fault k) → B k → ⊥
  failed j k f e b =
      let is : k ≡ j = cc in
      f (subst B is b)

  play_free : {A : Type 0} (n : ℕ) (c : Script A) (T : Tapes) → IsFree c → ((q : ℕ) → AreShort (T q)) → CameFree (play n c T)
  play_free n (Give a) T f h = (λ k e b. cc, tt)
  play_free n (Fail j) T f h = (λ k e b. failed j k f e b, tt)
  play_free n (Waits q go) T f h = taken_free n q T (T q) (λ m v U. play m (go v) U) h (h q) (λ m v U s i. play_free m (go v) U (f v s) i)
  play_free zero (Sends p v c) T f h = (λ k e b. cc, tt)
  play_free (suc n) (Sends p v c) T f h =
      let came = play_free n c T f.1 h in
      (came.0, (f.0, came.1))
  play_free zero (Turns c) T f h = (λ k e b. cc, tt)
  play_free (suc n) (Turns c) T f h = play_free n c T f h
  play_free n Rest T f h = (λ k e b. cc, tt)

  exec_free : (n : ℕ) (b : Stmt) (s : Store) (T : Tapes) → ((j : Failure) → B j → AreInnocent j b) → AreOf64Bits b s T → CameFree (exec n b s T)
  exec_free n b s T i are = play_free n (script_of n b s Give) T (script_free n b s Give i are.written are.stored (λ r l. tt)) are.taken

values_short : (here : Port → Bool) (xs : List (Port × Value)) → AreSentIn64 xs → AreShort (values_at here xs)
values_short here [] h = tt
values_short here (x ∷ xs) h = by (here x.0) (values_short here xs h.1)
  where
    by : (c : Bool) → AreShort (values_at here xs) → AreShort (if c then x.1 ∷ values_at here xs else values_at here xs)
    by true i = (h.0, i)
    by false i = i

-- ---- the iterates

input_short : (N : Schema) (I : Inputs) → AreNumbersOf64 N I → (c : Line) → AreShort (input_list I c)
input_short N I h (Channel c) = h.given c
input_short N I h (line.Print p) = tt

fed_short : (N : Schema) (I : Inputs) → AreNumbersOf64 N I → (x : Source) (sent : ℕ → List Value) (c : Line) → ((p : ℕ) → AreShort (sent p)) → AreShort (fed x I sent c)
fed_short N I h Given sent c f = input_short N I h c
fed_short N I h (Written p) sent c f = f p
fed_short N I h Nobody sent c f = tt

tape_short : (H : Histories) (a : Actual) → ((c : Line) → AreShort (H c)) → AreShort (tape_of H a)
tape_short H (Reads c) h = h (Channel c)
tape_short H a h = tt

on_tapes : (N : Schema) (I : Inputs) (p : ℕ) (H : Histories) → AreNumbersOf64 N I → ((c : Line) → AreShort (H c)) →
    AreOf64Bits (instance_at N p).body (opening (instance_at N p)) (tapes_of (instance_at N p) H)
on_tapes N I p H h i = record {
  written = h.written p;
  stored = h.opened p;
  taken = λ q. tape_short H (actual_at (instance_at N p) q) i;
}

iterates_short : (N : Schema) (I : Inputs) → AreNumbersOf64 N I → (n : ℕ) (c : Line) → AreShort (iterate N I n c)
iterates_short N I h zero c = fed_short N I h (source N c) (λ p. []) c (λ p. tt)
iterates_short N I h (suc n) c =
    fed_short N I h (source N c) (λ p. out N n p (iterate N I n) c) c
    (λ p. values_short (goes_to N p c) (exec_at N n p (iterate N I n)).sent
    (exec_free (λ j. ⊥) n (instance_at N p).body (opening (instance_at N p)) (tapes_of (instance_at N p) (iterate N I n)) (λ j b. absurd b) (on_tapes N I p (iterate N I n) h (iterates_short N I h n))).1)

-- ---- the tree

no_more : {A : Type 0} (xs ys : List A) → xs ++ ys ≡ [] → (xs ≡ []) × (ys ≡ [])
no_more [] ys e = (refl, e)
no_more (x ∷ xs) ys e = absurd cc

one_place : (c : Bool) (at : Span) (rest : List Span) → place_where c at ++ rest ≡ [] → (c ≡ false) × (rest ≡ [])
one_place true at rest e = absurd cc
one_place false at rest e = (refl, e)

abbrev places : Failure → List ConstantSite → List Span
places k sites = flat_map (site_places k) sites

parted : (k : Failure) (xs ys : List ConstantSite) → places k (xs ++ ys) ≡ [] → (places k xs ≡ []) × (places k ys ≡ [])
parted k [] ys e = (refl, e)
parted k (x ∷ xs) ys e =
    let are = no_more (site_places k x) (places k (xs ++ ys)) e in
    let both = parted k xs ys are.1 in
    ((λ i. are.0 i ++ both.0 i), both.1)

mutual
  same_constant : (names : Scope) (f : Form) → constant_of (expr_of names f) ≡ constant_of (expr_of [] f)
  same_constant names (Negate' p at e) = ap (combined Subtract from_0) (same_constant names e)
  same_constant names (Not' p at e) = ap (λ x. combined Unequal x truly) (same_constant names e)
  same_constant names (Bracket' p at e) = same_constant names e
  same_constant names (Level' p at e shape rest) = same_level names _ _ rest (same_constant names e)
  same_constant names (Conditional' p at t q at' a r at'' b) = λ i. chosen (same_constant names t i) (same_constant names a i) (same_constant names b i)
  same_constant names f = refl

  same_level : {m : _} (names : Scope) (a b : Expr) (row : Row_of-Operand m) → constant_of a ≡ constant_of b → constant_of (level_of names a row) ≡ constant_of (level_of [] b row)
  same_level names a b end_of-Operand h = h
  same_level names a b (more_of-Operand o at e rest) h = same_level names _ _ rest (λ i. combined o (h i) (same_constant names e i))

mutual
  none_form : (k : Failure) (names : Scope) (f : Form) → places k (form_sites f) ≡ [] → IsInnocent k (expr_of names f)
  none_form k names (Negate' p at e) h =
      let are = parted k (form_sites e) _ h in
      (none_form k names e are.0, innocent.sign k (constant_of (expr_of names e)) (ap (operator_can k Subtract from_0) (same_constant names e) ∙ (one_place (operator_can k Subtract from_0 (constant_of (expr_of [] e))) at [] are.1).0))
  none_form k names (Not' p at e) h = none_form k names e h
  none_form k names (Bracket' p at e) h = none_form k names e h
  none_form k names (Level' p at e shape rest) h =
      let are = parted k (form_sites e) _ h in
      none_level k names (expr_of names e) rest (none_form k names e are.0) (ap (λ l. places k (level_sites l rest)) (same_constant names e) ∙ are.1)
  none_form k names (Conditional' p at t q at' a r at'' b) h =
      let are = parted k (form_sites t) _ h in
      let both = parted k (form_sites a) _ are.1 in
      (none_form k names t are.0, none_form k names a both.0, none_form k names b both.1)
  none_form k names f h = tt

  none_level : {m : _} (k : Failure) (names : Scope) (first : Expr) (row : Row_of-Operand m) → IsInnocent k first → places k (level_sites (constant_of first) row) ≡ [] →
      IsInnocent k (level_of names first row)
  none_level k names first end_of-Operand i h = i
  none_level k names first (more_of-Operand o at e rest) i h =
      let are = parted k (form_sites e) _ h in
      let both = one_place (operator_can k o (constant_of first) (constant_of (expr_of [] e))) at (places k (level_sites (combined o (constant_of first) (constant_of (expr_of [] e))) rest)) are.1 in
      none_level k names (Binary o first (expr_of names e)) rest
      (i, none_form k names e are.0, innocent.operator k o (constant_of first) (constant_of (expr_of names e)) (ap (operator_can k o (constant_of first)) (same_constant names e) ∙ both.0))
      (ap (λ r. places k (level_sites (combined o (constant_of first) r) rest)) (same_constant names e) ∙ both.1)

mutual
  none_action : (k : Failure) (names : Scope) (a : Action) → places k (action_sites a) ≡ [] → AreInnocent k (stmt_of names a)
  none_action k names action.Empty h = tt
  none_action k names (action.Assign x e) h = none_form k names e.form h
  none_action k names (action.Send e q) h = none_form k names e.form h
  none_action k names (action.Print e) h = none_form k names e.form h
  none_action k names (Block' shape row) h = none_row k names row h
  none_action k names (If' t p at a b) h =
      let are = parted k (form_sites t.form) _ h in
      let both = parted k (action_sites a) _ are.1 in
      (none_form k names t.form are.0, none_action k names a both.0, none_else k names b both.1)
  none_action k names (While' t p at a) h =
      let are = parted k (form_sites t.form) _ h in
      (none_form k names t.form are.0, none_action k names a are.1)
  none_action k names (Repeat' p at a) h = none_action k names a h

  none_row : {m : _} (k : Failure) (names : Scope) (row : Row_of-Statement m) → places k (row_sites row) ≡ [] → AreInnocent k (row_of names row)
  none_row k names end_of-Statement h = tt
  none_row k names (more_of-Statement at a rest) h =
      let are = parted k (action_sites a) _ h in
      (none_action k names a are.0, none_row k names rest are.1)

  none_else : (k : Failure) (names : Scope) (b : Held-Action-If-2) → places k (else_sites b) ≡ [] → AreInnocent k (else_of names b)
  none_else k names None' h = tt
  none_else k names (Some' p at a) h = none_action k names a h

none_body : (k : Failure) (names : Scope) (ss : List Statement) → fault_places k ss ≡ [] → AreInnocent k (body_of names ss)
none_body k names [] h = tt
none_body k names (s ∷ ss) h =
    let are = parted k (action_sites s.action) _ h in
    (none_action k names s.action are.0, none_body k names ss are.1)

nowhere : (k : Failure) (names : Scope) (ss : List Statement) → fault_places k ss ≡ [] → (n : ℕ) (s : Store) (T : Tapes) → AreOf64Bits (body_of names ss) s T
    → (exec n (body_of names ss) s T).outcome ≡ Fault k → ⊥
nowhere k names ss h n s T are e =
    (exec_free (λ j. j ≡ k) n (body_of names ss) s T (λ j is. subst (λ l. AreInnocent l (body_of names ss)) (sym is) (none_body k names ss h)) are).0 k e refl

ended : {A : Type 0} (x : ScriptOutcome A) (k : Failure) → ending x ≡ Some (Faulted k) → x ≡ Fault k
ended (Fault j) k e =
    let is : j ≡ k = cc in
    ap Fault is
ended x k e = absurd cc

placed : (N : Schema) (I : Inputs) → AreNumbersOf64 N I → (p e : ℕ) (k : Failure) → HasEnd N I p (Faulted k) e → (names : Scope) (ss : List Statement) →
    (instance_at N p).body ≡ body_of names ss → fault_places k ss ≡ [] → ⊥
placed N I h p e k has names ss is none =
    let H = iterate N I has.0 in
    let i = instance_at N p in
    let out = ended (exec_at N has.0 p H).outcome k (has.1 has.0 (omega arith)).0 in
    nowhere k names ss none has.0 (opening i) (tapes_of i H)
    (subst (λ b. AreOf64Bits b (opening i) (tapes_of i H)) is (on_tapes N I p H h (iterates_short N I h has.0)))
    (subst (λ b. (exec has.0 b (opening i) (tapes_of i H)).outcome ≡ Fault k) is out)

pub faults_lie : FaultsLie
faults_lie = record {
  operator = innocent.operator;
  sign = innocent.sign;
  some = innocent.some;
  divisor = innocent.divisor;
  nowhere = nowhere;
  placed = placed;
}
