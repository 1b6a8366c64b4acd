-- The sides of a channel by names and by numbers.
use Rattle.kahn_streams.proofs.Common.{◌≡◌, ℕ, suc, ◌<◌, Bool, true, false, cond, List, ◌∷◌, ◌++◌, map, length, Some, refl, ap, sym, ◌∙◌, subst, arith, bytes_eq, AllByRecursion, length-map, get_or_from_slice_get, Name, Kind, Role, Direction, Taking, Argument, Program, Side, Inner, Input, Output, In, Out, Scope, place_of, bytes_of, Actual, Reads, Writes, is_written, actual_of, actuals_of, channels_of, process_of, instance_from, network_of, channel_source, source_by, role_at, kind_at, first_writer, IsWithin, IsWriter, IsReader, IsOnly, HasOne, HasNone, IsServed, source_of, channel_names, first, Handover, declared_channels, handed, handed_in, handed_by, handed_from, parameters_of, ends, writers, readers, IsOne, IsWired, IsMade, IsWellWired, side_at, []}
use Rattle.std.specs.Prelude.{slice_get, ◌==◌}
use Rattle.std.proofs.lemmas.Bool.{eq-eqb}
use Rattle.kahn_streams.specs.Types.{Parameter, Instance}
use Rattle.kahn_streams.specs.declared.tree.Kind.TheVariants as K
use Rattle.kahn_streams.specs.declared.tree.Taking.TheVariants as T
use Rattle.kahn_streams.specs.declared.tree.Argument.TheVariants as A
use Rattle.kahn_streams.specs.Network as N
use Rattle.kahn_streams.proofs.{Handed.ends_append, Picked.picks, Picked.picked, Picked.Passes, Picked.only, Picked.only_as, Picked.first_source, Picked.first_picked, By_number.all_at, By_number.there, By_number.mapped, By_number.the_process, By_number.channels_same, By_number.distinct_channels, By_number.number_test}
use Rattle.kahn_streams.proofs.Handed as Handed

-- ---- a test for each direction

abbrev pub is_handed : Direction → ℕ → Actual → Bool
is_handed Out c a = is_written a c
is_handed In c (Reads d) = d == c
is_handed In c _ = false

-- what is handed over there
abbrev hand : Direction → ℕ → Actual
hand Out c = Writes c
hand In c = Reads c

hands : (d : Direction) (c : ℕ) (a : Actual) → is_handed d c a ≡ true → a ≡ hand d c
hands Out c (Writes e) h = let same : e ≡ c = grind (arith, h) in ap Writes same
hands In c (Reads e) h = let same : e ≡ c = grind (arith, h) in ap Reads same
hands In c _ h = cc
hands Out c _ h = cc

hands_back : (d : Direction) (c : ℕ) → is_handed d c (hand d c) ≡ true
hands_back Out c = eq-eqb c c refl
hands_back In c = eq-eqb c c refl

-- ---- the same sides by names and by numbers

-- y is the name of channel c exactly where its number is c
abbrev pub IsNumbered : Scope → ℕ → List ℕ → Type 0
IsNumbered names c x = (y : List ℕ) → (place_of names y == c) ≡ bytes_eq x y

one_argument : (names : Scope) (c : ℕ) (x : List ℕ) (d : Direction) (s : Side) (w : Taking) (y : Argument) (ss : List Side) (hs : List Handover) → IsNumbered names c x → ss ≡ ends d x hs →
    cond (is_handed d c (actual_of names w y)) (s ∷ ss) ss ≡ ends d x (handed s w y ++ hs)
one_argument names c x Out s (T.Channel Out k) (A.Channel n) ss hs t h = λ j. cond (t (bytes_of n) j) (s ∷ h j) (h j)
one_argument names c x In s (T.Channel In k) (A.Channel n) ss hs t h = λ j. cond (t (bytes_of n) j) (s ∷ h j) (h j)
one_argument names c x Out s (T.Value k) (A.Channel n) ss hs t h = h
one_argument names c x In s (T.Value k) (A.Channel n) ss hs t h = h
one_argument names c x Out s (T.Channel In k) (A.Channel n) ss hs t h = h
one_argument names c x In s (T.Channel Out k) (A.Channel n) ss hs t h = h
one_argument names c x _ s _ _ ss hs t h = h

all_arguments : (names : Scope) (c : ℕ) (x : List ℕ) (d : Direction) (i q : ℕ) (ps : List Parameter) (ys : List Argument) → IsNumbered names c x →
    picks (is_handed d c) i q (actuals_of names ps ys) ≡ ends d x (handed_in i q ps ys)
all_arguments names c x d i q (p ∷ ps) (y ∷ ys) t =
    one_argument names c x d (side_at i q) p.taking y (picks (is_handed d c) i (suc q) (actuals_of names ps ys)) (handed_in i (suc q) ps ys) t
    (all_arguments names c x d i (suc q) ps ys t)
all_arguments names c x d i q _ _ t = refl

one_instance : (t : Program) (names : Scope) (c : ℕ) (x : List ℕ) (d : Direction) (i : ℕ) (y : Instance) → IsNumbered names c x → IsMade t y →
    picks (is_handed d c) i 0 (instance_from names (process_of t.declarations.items (bytes_of y.process)) y.arguments.items).actuals ≡ ends d x (handed_by t i y)
one_instance t names c x d i y num m =
    let p = m.0 in
    let is = the_process (bytes_of y.process) p t.declarations.items m.1 in
    ap (λ o. picks (is_handed d c) i 0 (instance_from names o y.arguments.items).actuals) is
    ∙ all_arguments names c x d i 0 p.parameters.items y.arguments.items num
    ∙ sym (ap (λ o. ends d x (handed_in i 0 (parameters_of o) y.arguments.items)) m.1)

abbrev pub made_of : Program → Scope → List Instance → List N.Node
made_of t names ys = map (λ y. instance_from names (process_of t.declarations.items (bytes_of y.process)) y.arguments.items) ys

all_instances : (t : Program) (names : Scope) (c : ℕ) (x : List ℕ) (d : Direction) (i : ℕ) (ys : List Instance) → IsNumbered names c x → AllByRecursion (IsMade t) ys →
    picked (is_handed d c) i (made_of t names ys) ≡ ends d x (handed_from t i ys)
all_instances t names c x d i [] num m = refl
all_instances t names c x d i (y ∷ ys) num m =
    (λ j. one_instance t names c x d i y num m.0 j ++ all_instances t names c x d (suc i) ys num m.1 j) ∙ sym (ends_append d x (handed_by t i y) (handed_from t (suc i) ys))

-- a declared channel has its declared name
pub named_at : (t : Program) (c : ℕ) (e : Name × (Kind × Role)) → slice_get (declared_channels t.declarations.items) c ≡ Some e → slice_get (channel_names t) c ≡ Some (bytes_of e.0)
named_at t c e h =
    let ds = t.declarations.items in
    let g = mapped (λ (e : Name × (Kind × Role)). (bytes_of e.0, e.1)) (declared_channels ds) c e h in
    mapped (λ (c : List ℕ × (Kind × Role)). c.0) (channels_of ds) c (bytes_of e.0, e.1) (ap (λ z. slice_get z c) (channels_same ds) ∙ g)

pub lined_at : (t : Program) (c : ℕ) (e : Name × (Kind × Role)) → slice_get (declared_channels t.declarations.items) c ≡ Some e → slice_get (network_of t).channels c ≡ Some e.1
lined_at t c e h =
    let ds = t.declarations.items in
    let g = mapped (λ (e : Name × (Kind × Role)). (bytes_of e.0, e.1)) (declared_channels ds) c e h in
    mapped (λ (c : List ℕ × (Kind × Role)). c.1) (channels_of ds) c (bytes_of e.0, e.1) (ap (λ z. slice_get z c) (channels_same ds) ∙ g)

pub sides_same : (t : Program) → IsWellWired t → (c : ℕ) (e : Name × (Kind × Role)) → slice_get (declared_channels t.declarations.items) c ≡ Some e → (d : Direction) →
    picked (is_handed d c) 0 (network_of t).instances ≡ ends d (bytes_of e.0) (handed_from t 0 t.instances.items)
sides_same t h c e at d =
    let num = λ (y : List ℕ). number_test (channel_names t) c (bytes_of e.0) y (distinct_channels t.declarations.items h.names) (named_at t c e at) in
    all_instances t (channel_names t) c (bytes_of e.0) d 0 t.instances.items num h.instances

-- ---- who has a side

wired_at : (t : Program) → IsWellWired t → (c : ℕ) (e : Name × (Kind × Role)) → slice_get (declared_channels t.declarations.items) c ≡ Some e → IsWired t (e.0, (e.1.0, e.1.1))
wired_at t h c e at = all_at (IsWired t) (declared_channels t.declarations.items) c e h.channels at

one_side : (t : Program) → IsWellWired t → (c : ℕ) (e : Name × (Kind × Role)) → slice_get (declared_channels t.declarations.items) c ≡ Some e → (d : Direction) →
    IsOnly (λ s. IsWithin (network_of t) s × (N.handed_at (network_of t) s ≡ hand d c)) (first (ends d (bytes_of e.0) (handed_from t 0 t.instances.items)))
one_side t h c e at d =
    let n = network_of t in
    let es = ends d (bytes_of e.0) (handed_from t 0 t.instances.items) in
    only_as (Passes (is_handed d c) n) (λ s. IsWithin n s × (N.handed_at n s ≡ hand d c)) (first es) (λ s p. (p.0, hands d c (N.handed_at n s) p.1))
    (λ s p. (p.0, ap (is_handed d c) p.1 ∙ hands_back d c)) (only (is_handed d c) n es (sides_same t h c e at d) (Handed.served t e.0 e.1.0 e.1.1 d (wired_at t h c e at)).0)

pub one_writer : (t : Program) → IsWellWired t → (c : ℕ) (e : Name × (Kind × Role)) → slice_get (declared_channels t.declarations.items) c ≡ Some e →
    IsOnly (IsWriter (network_of t) c) (first (writers t (bytes_of e.0)))
one_writer t h c e at = one_side t h c e at Out

pub one_reader : (t : Program) → IsWellWired t → (c : ℕ) (e : Name × (Kind × Role)) → slice_get (declared_channels t.declarations.items) c ≡ Some e →
    IsOnly (IsReader (network_of t) c) (first (readers t (bytes_of e.0)))
one_reader t h c e at = one_side t h c e at In

-- ---- where a channel's values come from

pub line_kind : (t : Program) (c : ℕ) (e : Name × (Kind × Role)) → slice_get (declared_channels t.declarations.items) c ≡ Some e → kind_at (network_of t) c ≡ e.1.0
line_kind t c e at = ap (λ (z : Kind × Role). z.0) (get_or_from_slice_get (network_of t).channels c e.1 (K.Integer, Inner) (lined_at t c e at))

pub line_role : (t : Program) (c : ℕ) (e : Name × (Kind × Role)) → slice_get (declared_channels t.declarations.items) c ≡ Some e → role_at (network_of t) c ≡ e.1.1
line_role t c e at = ap (λ (z : Kind × Role). z.1) (get_or_from_slice_get (network_of t).channels c e.1 (K.Integer, Inner) (lined_at t c e at))

come_from : (t : Program) (n : Name) (kind : Kind) (role : Role) → IsWired t (n, (kind, role)) → source_by role (first_source (writers t (bytes_of n))) ≡ source_of (first (writers t (bytes_of n)))
come_from t n kind Input h = sym (ap (λ z. source_of (first z)) h.0)
come_from t n kind _ h = ap first_source h.0.1 ∙ sym (ap (λ z. source_of (first z)) h.0.1)

pub sourced : (t : Program) → IsWellWired t → (c : ℕ) (e : Name × (Kind × Role)) → slice_get (declared_channels t.declarations.items) c ≡ Some e →
    channel_source (network_of t) c ≡ source_of (first (writers t (bytes_of e.0)))
sourced t h c e at =
    let n = network_of t in
    (λ j. source_by (line_role t c e at j) (first_writer n.instances 0 c))
    ∙ ap (source_by e.1.1) (first_picked c 0 n.instances ∙ ap first_source (sides_same t h c e at Out))
    ∙ come_from t e.0 e.1.0 e.1.1 (wired_at t h c e at)

-- ---- the channels of the network

pub channel_count : (t : Program) → length (network_of t).channels ≡ length (declared_channels t.declarations.items)
channel_count t =
    let ds = t.declarations.items in
    length-map {B = Kind × Role} (channels_of ds) (λ c. c.1) ∙ ap (λ (z : List (List ℕ × (Kind × Role))). length z) (channels_same ds) ∙ length-map {B = List ℕ × (Kind × Role)} (declared_channels ds) (λ e. (bytes_of e.0, e.1))

pub declared_there : (t : Program) (c : ℕ) → c < length (network_of t).channels → (e : Name × (Kind × Role)) × (slice_get (declared_channels t.declarations.items) c ≡ Some e)
declared_there t c h = there (declared_channels t.declarations.items) c (subst (λ z. c < z) (channel_count t) h)

-- ---- the law

has_one : (P : Side → Type 0) (es : List Side) → IsOne es → IsOnly P (first es) → HasOne P
has_one P es one h = (one.0, subst (λ z. IsOnly P (first z)) one.1 h)

has_none : (P : Side → Type 0) (es : List Side) → es ≡ [] → IsOnly P (first es) → HasNone P
has_none P es none h = subst (λ z. IsOnly P (first z)) none h

by_role : (t : Program) (c : ℕ) (n : Name) (kind : Kind) (role : Role) → IsWired t (n, (kind, role)) →
    IsOnly (IsWriter (network_of t) c) (first (writers t (bytes_of n))) → IsOnly (IsReader (network_of t) c) (first (readers t (bytes_of n))) → IsServed (network_of t) c role
by_role t c n kind Inner h w r = (has_one (IsWriter (network_of t) c) (writers t (bytes_of n)) h.0 w, has_one (IsReader (network_of t) c) (readers t (bytes_of n)) h.1 r)
by_role t c n kind Input h w r = (has_none (IsWriter (network_of t) c) (writers t (bytes_of n)) h.0 w, has_one (IsReader (network_of t) c) (readers t (bytes_of n)) h.1 r)
by_role t c n kind Output h w r = (has_one (IsWriter (network_of t) c) (writers t (bytes_of n)) h.0 w, has_none (IsReader (network_of t) c) (readers t (bytes_of n)) h.1 r)

pub channel_served : (t : Program) → IsWellWired t → (c : ℕ) → c < length (network_of t).channels → IsServed (network_of t) c (role_at (network_of t) c)
channel_served t h c lt =
    let d = declared_there t c lt in
    let e = d.0 in
    subst (IsServed (network_of t) c) (sym (line_role t c e d.1)) (by_role t c e.0 e.1.0 e.1.1 (wired_at t h c e d.1) (one_writer t h c e d.1) (one_reader t h c e d.1))
