-- The channels and processes of a program by name and by number.
use Rattle.kahn_streams.proofs.Common.{slice_get-map, slice_get_read, ◌≡◌, ◌⊎◌, inl, inr, ℕ, zero, suc, ◌<◌, Bool, true, false, cond, List, ◌∷◌, ◌++◌, map, length, Option, Some, refl, ap, sym, ◌∙◌, subst, arith, bytes_eq, lookup, AllByRecursion, map-append, Name, Kind, Role, Process, Declaration, Scope, place_of, bytes_of, channels_of, process_of, entries, Global, IsChannel, IsProcess, declared_of, declared_channels, processes_of, []}
use Rattle.std.specs.Prelude.{slice_get, slice_index_or, ◌==◌}
use Rattle.std.specs.Option.{option_map}
pub use Rattle.std.proofs.lemmas.Option.{slice_get_within as within}
use Rattle.std.proofs.Math.Logic.{⊎_elim}
use Rattle.std.proofs.Math.Dec.{eqb-suc-zero, eqb-suc-suc, eqb-zero-suc}
use Rattle.std.specs.List.{IsDistinct}
use Rattle.kahn_streams.specs.declared.tree.Declaration.TheVariants as D
use Rattle.kahn_streams.proofs.Handed.{Table, keys, as_channels, bytes_true, bytes_turned, bytes_self}

-- ---- members of a list by number

pub all_at : {A : Type 0} (P : A → Type 0) (xs : List A) (c : ℕ) (x : A) → AllByRecursion P xs → slice_get xs c ≡ Some x → P x
all_at P (y ∷ ys) zero x h i = let same : y ≡ x = cc in subst P same h.0
all_at P (y ∷ ys) (suc c) x h i = all_at P ys c x h.1 i
all_at P _ _ x h i = cc

pub there : {A : Type 0} (xs : List A) (c : ℕ) → c < length xs → (x : A) × (slice_get xs c ≡ Some x)
there [] c h = absurd (omega arith)
there (x ∷ xs) zero h = (x, refl)
there (x ∷ xs) (suc c) h = there xs c (omega arith)

pub at_index : {A : Type 0} (xs : List A) (c : ℕ) (x : A) → c < length xs → slice_index_or xs c x ≡ x → slice_get xs c ≡ Some x
at_index xs c x lt h = slice_get_read xs (length xs) c x refl lt (sym h)

pub mapped : {A B : Type 0} (f : A → B) (xs : List A) (c : ℕ) (x : A) → slice_get xs c ≡ Some x → slice_get (map f xs) c ≡ Some (f x)
mapped f xs c x h = slice_get-map f xs c ∙ ap (option_map f) h

-- what stands in the image is the image of what stands there
pub mapped_at : {A B : Type 0} (f : A → B) (xs : List A) (c : ℕ) (y : B) → slice_get (map f xs) c ≡ Some y → (x : A) × (slice_get xs c ≡ Some x) × (y ≡ f x)
mapped_at f (x ∷ xs) zero y h = let same : f x ≡ y = cc in (x, refl, sym same)
mapped_at f (x ∷ xs) (suc c) y h = mapped_at f xs c y h
mapped_at f _ _ y h = cc

-- what is found first, or among the rest
pub found_in : {X : Type 0} (b : Bool) (x y : X) (o : Option X) → cond b (Some x) o ≡ Some y → ((b ≡ true) × (x ≡ y)) ⊎ ((b ≡ false) × (o ≡ Some y))
found_in true x y o h = inl (refl, cc)
found_in false x y o h = inr (refl, h)

-- ---- a process by its name

skip_names : (x : List ℕ) (kind : Kind) (role : Role) (p : Process) (xs : List Name) (rest : Table) → lookup (bytes_eq x) (entries (as_channels kind role xs) ++ rest) ≡ Some (IsProcess p) →
    lookup (bytes_eq x) rest ≡ Some (IsProcess p)
skip_names x kind role p [] rest h = h
skip_names x kind role p (n ∷ ns) rest h =
    ⊎_elim (λ (e, f). cc) (λ (e, i). skip_names x kind role p ns rest i) (found_in (bytes_eq x (bytes_of n)) (IsChannel kind role) (IsProcess p) _ h)

split : (x : List ℕ) (g : Option Global) (kind : Kind) (role : Role) (names : List Name) (rest : List Declaration) →
    lookup (bytes_eq x) (entries (as_channels kind role names ++ declared_of rest)) ≡ g → lookup (bytes_eq x) (entries (as_channels kind role names) ++ entries (declared_of rest)) ≡ g
split x g kind role names rest h =
    ap (lookup (bytes_eq x)) (sym (map-append (λ (e : Name × Global). (bytes_of e.0, e.1)) (as_channels kind role names) (declared_of rest))) ∙ h

pub the_process : (x : List ℕ) (p : Process) (ds : List Declaration) → lookup (bytes_eq x) (entries (declared_of ds)) ≡ Some (IsProcess p) → process_of ds x ≡ Some p
the_process x p [] h = cc
the_process x p (D.Channels kind role names ∷ rest) h =
    the_process x p rest (skip_names x kind role p names.items (entries (declared_of rest)) (split x (Some (IsProcess p)) kind role names.items rest h))
the_process x p (D.Process q ∷ rest) h =
    ⊎_elim (λ (e, f). let same : q ≡ p = cc in rw e (ap Some same)) (λ (e, i). rw e (the_process x p rest i))
    (found_in (bytes_eq x (bytes_of q.name)) (IsProcess q) (IsProcess p) _ h)

-- what each process meets, the process of that name meets
pub of_process : (P : Process → Type 0) (x : List ℕ) (p : Process) (ds : List Declaration) → AllByRecursion P (processes_of ds) → process_of ds x ≡ Some p → P p
of_process P x p [] all h = cc
of_process P x p (D.Channels kind role names ∷ rest) all h = of_process P x p rest all h
of_process P x p (D.Process q ∷ rest) all h =
    ⊎_elim (λ (e, f). subst P f all.0) (λ (e, i). of_process P x p rest all.1 i) (found_in (bytes_eq x (bytes_of q.name)) q p _ h)

-- ---- a channel by its name

place_in_names : (x : List ℕ) (kind j : Kind) (role r : Role) (xs : List Name) (rest : Table) (cs : List (List ℕ × (Kind × Role))) →
    (lookup (bytes_eq x) rest ≡ Some (IsChannel kind role) → slice_get (map (λ c. c.1) cs) (place_of (map (λ c. c.0) cs) x) ≡ Some (kind, role)) →
    lookup (bytes_eq x) (entries (as_channels j r xs) ++ rest) ≡ Some (IsChannel kind role) →
    slice_get (map (λ c. c.1) (map (λ n. (bytes_of n, (j, r))) xs ++ cs)) (place_of (map (λ c. c.0) (map (λ n. (bytes_of n, (j, r))) xs ++ cs)) x) ≡ Some (kind, role)
place_in_names x kind j role r [] rest cs go h = go h
place_in_names x kind j role r (n ∷ ns) rest cs go h =
    ⊎_elim (λ (e, f). let same : j ≡ kind = cc in let alike : r ≡ role = cc in rw e (λ k. Some (same k, alike k)))
    (λ (e, i). rw e (place_in_names x kind j role r ns rest cs go i)) (found_in (bytes_eq x (bytes_of n)) (IsChannel j r) (IsChannel kind role) _ h)

pub declared_at : (x : List ℕ) (kind : Kind) (role : Role) (ds : List Declaration) → lookup (bytes_eq x) (entries (declared_of ds)) ≡ Some (IsChannel kind role) →
    slice_get (map (λ c. c.1) (channels_of ds)) (place_of (map (λ c. c.0) (channels_of ds)) x) ≡ Some (kind, role)
declared_at x kind role [] h = cc
declared_at x kind role (D.Channels j r names ∷ rest) h =
    place_in_names x kind j role r names.items (entries (declared_of rest)) (channels_of rest) (λ i. declared_at x kind role rest i) (split x (Some (IsChannel kind role)) j r names.items rest h)
declared_at x kind role (D.Process q ∷ rest) h =
    ⊎_elim (λ (e, f). cc) (λ (e, i). declared_at x kind role rest i) (found_in (bytes_eq x (bytes_of q.name)) (IsProcess q) (IsChannel kind role) _ h)

-- ---- the channels with and without the places of their names

lines_same : (kind : Kind) (role : Role) (xs : List Name) (cs : List (List ℕ × (Kind × Role))) (es : List (Name × (Kind × Role))) → cs ≡ map (λ e. (bytes_of e.0, e.1)) es →
    map (λ n. (bytes_of n, (kind, role))) xs ++ cs ≡ map (λ e. (bytes_of e.0, e.1)) (map (λ n. (n, (kind, role))) xs ++ es)
lines_same kind role [] cs es h = h
lines_same kind role (x ∷ xs) cs es h = ap (λ z. (bytes_of x, (kind, role)) ∷ z) (lines_same kind role xs cs es h)

pub channels_same : (ds : List Declaration) → channels_of ds ≡ map (λ e. (bytes_of e.0, e.1)) (declared_channels ds)
channels_same [] = refl
channels_same (D.Channels kind role names ∷ rest) = lines_same kind role names.items (channels_of rest) (declared_channels rest) (channels_same rest)
channels_same (D.Process p ∷ rest) = channels_same rest

-- ---- the names of channels are distinct

all_names : (P : List ℕ → Type 0) (kind : Kind) (role : Role) (xs : List Name) (ds : List Declaration) →
    (AllByRecursion P (keys (entries (declared_of ds))) → AllByRecursion P (map (λ c. c.0) (channels_of ds))) →
    AllByRecursion P (keys (entries (as_channels kind role xs ++ declared_of ds))) → AllByRecursion P (map (λ c. c.0) (map (λ n. (bytes_of n, (kind, role))) xs ++ channels_of ds))
all_names P kind role [] ds go h = go h
all_names P kind role (x ∷ xs) ds go h = (h.0, all_names P kind role xs ds go h.1)

all_channels : (P : List ℕ → Type 0) (ds : List Declaration) → AllByRecursion P (keys (entries (declared_of ds))) → AllByRecursion P (map (λ c. c.0) (channels_of ds))
all_channels P [] h = tt
all_channels P (D.Channels kind role names ∷ rest) h = all_names P kind role names.items rest (λ i. all_channels P rest i) h
all_channels P (D.Process p ∷ rest) h = all_channels P rest h.1

distinct_names : (kind : Kind) (role : Role) (xs : List Name) (ds : List Declaration) →
    (IsDistinct bytes_eq (keys (entries (declared_of ds))) → IsDistinct bytes_eq (map (λ c. c.0) (channels_of ds))) →
    IsDistinct bytes_eq (keys (entries (as_channels kind role xs ++ declared_of ds))) → IsDistinct bytes_eq (map (λ c. c.0) (map (λ n. (bytes_of n, (kind, role))) xs ++ channels_of ds))
unfolding IsDistinct
distinct_names kind role [] ds go h = go h
distinct_names kind role (x ∷ xs) ds go h =
    (all_names (λ y. bytes_eq (bytes_of x) y ≡ false) kind role xs ds (λ i. all_channels (λ y. bytes_eq (bytes_of x) y ≡ false) ds i) h.0, distinct_names kind role xs ds go h.1)

pub distinct_channels : (ds : List Declaration) → IsDistinct bytes_eq (keys (entries (declared_of ds))) → IsDistinct bytes_eq (map (λ c. c.0) (channels_of ds))
unfolding IsDistinct
distinct_channels [] h = tt
distinct_channels (D.Channels kind role names ∷ rest) h = distinct_names kind role names.items rest (λ i. distinct_channels rest i) h
distinct_channels (D.Process p ∷ rest) h = distinct_channels rest h.1

-- ---- the number of a name is c exactly where it is the cth name

other : (x y n : List ℕ) → bytes_eq n x ≡ false → bytes_eq y n ≡ true → false ≡ bytes_eq x y
other x y n h i =
    let same = bytes_true y n i in
    sym (bytes_turned x y (subst (λ z. bytes_eq z x ≡ false) (sym same) h))

pub number_test : (names : Scope) (c : ℕ) (x y : List ℕ) → IsDistinct bytes_eq names → slice_get names c ≡ Some x → (place_of names y == c) ≡ bytes_eq x y
unfolding IsDistinct
number_test [] zero x y d h = cc
number_test [] (suc c) x y d h = cc
number_test (n ∷ ns) zero x y d h = by (bytes_eq y n) refl
  where
    same : n ≡ x
    same = cc

    by : (b : Bool) → bytes_eq y n ≡ b → (cond b 0 (suc (place_of ns y)) == 0) ≡ bytes_eq x y
    by true i = sym (subst (λ z. bytes_eq z y ≡ true) (bytes_true y n i ∙ same) (bytes_self y))
    by false i = eqb-suc-zero (place_of ns y) ∙ sym (bytes_turned x y (subst (λ z. bytes_eq y z ≡ false) same i))
number_test (n ∷ ns) (suc c) x y d h = by (bytes_eq y n) refl (number_test ns c x y d.1 h)
  where
    by : (b : Bool) → bytes_eq y n ≡ b → (place_of ns y == c) ≡ bytes_eq x y → (cond b 0 (suc (place_of ns y)) == suc c) ≡ bytes_eq x y
    by true i j = eqb-zero-suc c ∙ other x y n (all_at (λ z. bytes_eq n z ≡ false) ns c x d.0 h) i
    by false i j = eqb-suc-suc (place_of ns y) c ∙ j
