-- What a statement does that never ends, and what one does that isn't seen.
use Rattle.kahn_warnings.proofs.Common.{Assign, Binary, Bool, Conditional, Err, Expr, Fail, Failure, Give, If, Literal, Logical, LoopsHold, Negate, None, Not, Ok, Option, Repeat, Rest, Result, Script, Sends, Seq, Skip, Some, Stmt, Store, Tapes, Turns, Value, Variable, Wait, Waits, While, [], ap, apply, constant_of, false, fun_ext, is_seen, is_true, neg_ℤ, never_ends, not, number, play, ranged, refl, script_of, settle, slice_set, suc, true, truth, turns_of, value_of, waits_in, zero, ℕ, ◌||◌, ◌≡◌, and_parts, or_cases, or_parts, ⊎_elim}
use Rattle.kahn_warnings.proofs.{Holding.holds, Unchanged.kept_value, Unchanged.never_left, Unchanged.never_out, Unchanged.same_branch}

-- ---- whatever comes behind one that never ends

alike : {A : Type 0} (k : ℕ) (a : Stmt) (r : Store) (f g : Store → Script A) → Unit {0} → ((q : Store) → Unit {0} → f q ≡ g q) → script_of k a r f ≡ script_of k a r g
alike k a r f g t h = ap (λ (x : Store → Script _). script_of k a r x) (fun_ext (λ q. h q tt))

unmoved : {A : Type 0} (k : ℕ) (b : Stmt) (s : Store) (f g : Store → Script A) → never_ends b ≡ true → script_of k b s f ≡ script_of k b s g
unmoved k (Seq a b) s f g h =
    ⊎_elim (λ is. unmoved k a s (λ r. script_of k b r f) (λ r. script_of k b r g) is)
    (λ is. ap (λ (x : Store → Script _). script_of k a s x) (fun_ext (λ r. unmoved k b r f g is)))
    (or_cases (never_ends a) (never_ends b) h)
unmoved k (If t a b) s f g h =
    let is = and_parts (never_ends a) (never_ends b) h in
    ap (value_of t s) (fun_ext (λ v. same_branch (truth v) _ _ _ _ (unmoved k a s f g is.0) (unmoved k b s f g is.1)))
unmoved k (While t a) s f g h = by (constant_of t) refl h
  where
    by : (o : Option Value) → constant_of t ≡ o → is_true o ≡ true → script_of k (While t a) s f ≡ script_of k (While t a) s g
    by None is e = absurd cc
    by (Some v) is e = never_out (λ r. Unit {0}) (λ r go. value_of t r go) (λ r go. script_of k a r go) v e (λ r go _. holds t v r go is) (alike k a) k s f g tt
unmoved k (Repeat a) s f g h = never_out (λ r. Unit {0}) (λ r go. go (Logical true)) (λ r go. script_of k a r go) (Logical true) refl (λ r go _. refl) (alike k a) k s f g tt
unmoved k b s f g h = absurd cc

-- ---- scripts that take nothing and send nothing

abbrev Quiet : {A : Type 0} → Script A → Type 0
Quiet (Give a) = Unit {0}
Quiet (Fail k) = Unit {0}
Quiet (Waits q go) = ⊥
Quiet (Sends p v c) = ⊥
Quiet (Turns c) = Quiet c
Quiet Rest = Unit {0}

quiet_settle : {A : Type 0} (r : Result Value Failure) (next : Value → Script A) → ((v : Value) → Quiet (next v)) → Quiet (settle r next)
quiet_settle (Ok v) next q = q v
quiet_settle (Err k) next q = tt

quiet_branch : {A : Type 0} (c : Bool) (x y : Script A) → Quiet x → Quiet y → Quiet (elim c [ true ↦ x | false ↦ y ])
quiet_branch true x y p q = p
quiet_branch false x y p q = q

quiet_value : {A : Type 0} (e : Expr) (s : Store) (next : Value → Script A) → waits_in e ≡ false → ((v : Value) → Quiet (next v)) → Quiet (value_of e s next)
quiet_value (Literal c) s next h q = q _
quiet_value (Variable x) s next h q = q _
quiet_value (Wait p) s next h q = absurd cc
quiet_value (Negate e) s next h q = quiet_value e s _ h (λ v. quiet_settle (ranged (neg_ℤ (number v))) next q)
quiet_value (Not e) s next h q = quiet_value e s _ h (λ v. q (Logical (not (truth v))))
quiet_value (Binary o a b) s next h q =
    let is = or_parts (waits_in a) (waits_in b) h in
    quiet_value a s _ is.0 (λ v. quiet_value b s _ is.1 (λ w. quiet_settle (apply o v w) next q))
quiet_value (Conditional t a b) s next h q =
    let is = or_parts (waits_in t || waits_in a) (waits_in b) h in
    let are = or_parts (waits_in t) (waits_in a) is.0 in
    quiet_value t s _ are.0 (λ v. quiet_branch (truth v) _ _ (quiet_value a s next are.1 q) (quiet_value b s next is.1 q))

quiet_turns : {A : Type 0} (j : ℕ) (test : Store → (Value → Script A) → Script A) (body : Store → (Store → Script A) → Script A)
    → ((s : Store) (go : Value → Script A) → ((v : Value) → Quiet (go v)) → Quiet (test s go))
    → ((s : Store) (go : Store → Script A) → ((r : Store) → Quiet (go r)) → Quiet (body s go))
    → (s : Store) (next : Store → Script A) → ((r : Store) → Quiet (next r)) → Quiet (turns_of j test body s next)
quiet_turns zero test body p q s next h = tt
quiet_turns (suc j) test body p q s next h =
    p s _ (λ v. quiet_branch (truth v) _ _ (q s _ (λ r. quiet_turns j test body p q r next h)) (h s))

quiet_script : {A : Type 0} (k : ℕ) (b : Stmt) (s : Store) (next : Store → Script A) → is_seen b ≡ false → ((r : Store) → Quiet (next r)) → Quiet (script_of k b s next)
quiet_script k Skip s next h q = q s
quiet_script k (Assign x e) s next h q = quiet_value e s _ h (λ v. q (slice_set s x v))
quiet_script k (Seq a b) s next h q =
    let is = or_parts (is_seen a) (is_seen b) h in
    quiet_script k a s _ is.0 (λ r. quiet_script k b r next is.1 q)
quiet_script k (If t a b) s next h q =
    let is = or_parts (waits_in t || is_seen a) (is_seen b) h in
    let are = or_parts (waits_in t) (is_seen a) is.0 in
    quiet_value t s _ are.0 (λ v. quiet_branch (truth v) _ _ (quiet_script k a s next are.1 q) (quiet_script k b s next is.1 q))
quiet_script k (While t a) s next h q =
    let is = or_parts (waits_in t) (is_seen a) h in
    quiet_turns k (λ r go. value_of t r go) (λ r go. script_of k a r go) (λ r go p. quiet_value t r go is.0 p) (λ r go p. quiet_script k a r go is.1 p) s next q
quiet_script k (Repeat a) s next h q =
    quiet_turns k (λ r go. go (Logical true)) (λ r go. script_of k a r go) (λ r go p. p (Logical true)) (λ r go p. quiet_script k a r go h p) s next q
quiet_script k b s next h q = absurd cc

play_quiet : {A : Type 0} (n : ℕ) (c : Script A) (T : Tapes) → Quiet c → ((play n c T).left ≡ T) × ((play n c T).sent ≡ [])
play_quiet n (Give a) T q = (refl, refl)
play_quiet n (Fail k) T q = (refl, refl)
play_quiet n (Waits p go) T q = absurd q
play_quiet n (Sends p v c) T q = absurd q
play_quiet zero (Turns c) T q = (refl, refl)
play_quiet (suc n) (Turns c) T q = play_quiet n c T q
play_quiet n Rest T q = (refl, refl)

pub loops_hold : LoopsHold
loops_hold = record {
  unreached = λ a b h n s T. ap (λ c. play n c T) (unmoved n a s (λ r. script_of n b r Give) Give h);
  unchanged = never_left;
  kept = kept_value;
  unseen = λ a h n s T. play_quiet n (script_of n a s Give) T (quiet_script n a s Give h (λ r. tt));
}
