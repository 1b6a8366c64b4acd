-- A process of a well wired program runs dry only at a parameter that reads a channel.
use Rattle.kahn_streams.proofs.Common.{◌≡◌, ℕ, zero, suc, pos, List, ◌∷◌, ◌++◌, map, Some, refl, subst, slice_get, slice_index_or, AllByRecursion, Kind, Taking, Program, Value, In, Number, IsWellWired, Actual, Reads, Hands, Node, Schema, idle, instance_at, actual_at, network_of, taking_of, takings_of, IsFit, Tapes, Dry, Script, Give, Waits, Sends, Turns, Reached, put, wait_at, play, Store, script_of, exec, opening, []}
use Rattle.kahn_streams.specs.declared.tree.Taking.TheVariants as T
use Rattle.kahn_streams.proofs.{Fitted.instances_fit, Kinded.IsIn, Kinded.IsKept, Kinded.script_kept}

-- ---- runs

wait_dry : {A : Type 0} (w : List Taking) (n r q : ℕ) (U : Tapes) (vs : List Value) (go : ℕ → Value → Tapes → Reached A) → IsIn w r →
    ((m : ℕ) (v : Value) (V : Tapes) → (go m v V).outcome ≡ Dry q → IsIn w q) → (wait_at n r U vs go).outcome ≡ Dry q → IsIn w q
wait_dry w n r q U [] go h step e = let same : r ≡ q = cc in subst (IsIn w) same h
wait_dry w zero r q U (v ∷ vs) go h step e = absurd cc
wait_dry w (suc n) r q U (v ∷ vs) go h step e = step n v (put U r vs) e

play_dry : {A : Type 0} (w : List Taking) (n q : ℕ) (s : Script A) (U : Tapes) → IsKept ⊥ w s → (play n s U).outcome ≡ Dry q → IsIn w q
play_dry w n q (Waits r go) U h e = wait_dry w n r q U (U r) (λ m v V. play m (go v) V) h.0 (λ m v V f. play_dry w m q (go v) V (h.1 v (λ y. absurd y)) f) e
play_dry w (suc n) q (Sends p v s) U h e = play_dry w n q s U h.1 e
play_dry w (suc n) q (Turns s) U h e = play_dry w n q s U h e
play_dry w _ q _ U h e = absurd cc

-- ---- instances

no_variable : (ks : List Kind) (q : ℕ) (k : Kind) → slice_get (map (λ j. T.Value j) ks) q ≡ Some (T.Channel In k) → ⊥
no_variable (j ∷ ks) (suc q) k h = no_variable ks q k h
no_variable _ _ k h = cc

read_actual : (N : Schema) (a : Actual) (k : Kind) → Some (taking_of N a) ≡ Some (T.Channel In k) → (d : ℕ) × (a ≡ Reads d)
read_actual N (Reads d) k h = (d, refl)
read_actual N _ k h = absurd cc

-- a parameter that stands for a channel to read reads a channel
read_at : (N : Schema) (acts : List Actual) (ks : List Kind) (q : ℕ) (k : Kind) → slice_get (map (taking_of N) acts ++ map (λ j. T.Value j) ks) q ≡ Some (T.Channel In k) →
    (d : ℕ) × (slice_index_or acts q (Hands (Number (pos 0))) ≡ Reads d)
read_at N [] ks q k h = absurd (no_variable ks q k h)
read_at N (a ∷ acts) ks zero k h = read_actual N a k h
read_at N (a ∷ acts) ks (suc q) k h = read_at N acts ks q k h

pub fit_at : (N : Schema) (is : List Node) (p : ℕ) → AllByRecursion (IsFit N) is → IsFit N (slice_index_or is p idle)
fit_at N [] p h = (tt, tt)
fit_at N (i ∷ is) zero h = h.0
fit_at N (i ∷ is) (suc p) h = fit_at N is p h.1

pub reads_where_dry : (N : Schema) (i : Node) → IsFit N i → (n q : ℕ) (s : Store) (U : Tapes) → (exec n i.body s U).outcome ≡ Dry q → (d : ℕ) × (actual_at i q ≡ Reads d)
reads_where_dry N i fit n q s U e =
    let dry = play_dry (takings_of N i) n q (script_of n i.body s Give) U (script_kept ⊥ (takings_of N i) n i.body s Give fit.0 (λ y. absurd y) (λ r j. tt)) e in
    read_at N i.actuals i.variables q dry.0 dry.1

pub dry_reads : (t : Program) → IsWellWired t → (n p q : ℕ) (U : Tapes) →
    (exec n (instance_at (network_of t) p).body (opening (instance_at (network_of t) p)) U).outcome ≡ Dry q → (d : ℕ) × (actual_at (instance_at (network_of t) p) q ≡ Reads d)
dry_reads t wired n p q U e =
    let N = network_of t in
    reads_where_dry N (instance_at N p) (fit_at N N.instances p (instances_fit t wired)) n q (opening (instance_at N p)) U e
