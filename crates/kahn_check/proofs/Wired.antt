-- A program is well wired exactly where it has no faults.
use Rattle.kahn_check.proofs.Common.{nat_tests, ◌↔◌, option_or, keys, bytes_true, bytes_turned, AtMostOne, Table, ends_append, as_channels, bytes_self, ◌≡◌, ℕ, suc, ◌+◌, ◌≤◌, ◌<◌, Bool, true, false, cond, ◌&&◌, List, [], ◌∷◌, ◌++◌, map, length, Option, None, Some, refl, ap, sym, ◌∙◌, subst, bytes_eq, append_assoc, arith, length-append, true≢false, append-nil, length-map, AllByRecursion, lookup, Span, Name, Kind, Role, Direction, Taking, Parameter, Process, Declaration, Argument, Instance, Program, Side, Inner, Input, Output, In, Out, bytes_of, CheckFault, wrong, most_channels, most_instances, too_many, repeated, twice, process_faults, body_faults, channel_faults, declaration_faults, overtaken, misplaced, argument_faults, arguments_faults, miscounted, made_faults, instance_faults, missing, side_faults, sides_faults, faults, locals_of, scope_of, entries, Global, IsChannel, IsProcess, declared_of, declared_channels, processes_of, global, Handover, handed, handed_in, handed_by, handed_from, parameters_of, same_direction, ends, writers, readers, IsOne, IsWired, Fits, AllFit, IsMade, IsSound, IsWellWired, side_at, is_closed, IsServed, served, ◌⊎◌, inl, inr, map-append}
use Rattle.std.specs.List.{IsDistinct}
use Rattle.kahn_streams.specs.declared.tree.Kind.TheVariants as K
use Rattle.kahn_streams.specs.declared.tree.Taking.TheVariants as T
use Rattle.kahn_streams.specs.declared.tree.Declaration.TheVariants as D
use Rattle.kahn_streams.specs.declared.tree.Argument.TheVariants as A
use Rattle.std.proofs.{Math.Logic.⊎_elim, lemmas.Bool.false_from_ne_true}
use Rattle.kahn_streams.proofs.By_number.{found_in}
use Rattle.kahn_check.proofs.Typed.{nil_left, nil_right, both, two, agrees_body, kinds}

-- ---- members of lists

all_true : {X : Type 0} (P : X → Type 0) → ((x : X) → P x) → (xs : List X) → AllByRecursion P xs
all_true P f [] = tt
all_true P f (x ∷ xs) = (f x, all_true P f xs)

all_pair : {X : Type 0} (P Q R : X → Type 0) → ((x : X) → P x ↔ (Q x × R x)) → (xs : List X) → AllByRecursion P xs ↔ (AllByRecursion Q xs × AllByRecursion R xs)
all_pair P Q R f [] = ((λ h. (tt, tt)), (λ h. tt))
all_pair P Q R f (x ∷ xs) =
    let go = all_pair P Q R f xs in
    ((λ h. let i = (f x).0 h.0 in let j = go.0 h.1 in ((i.0, j.0), (i.1, j.1))), (λ h. ((f x).1 (h.0.0, h.1.0), go.1 (h.0.1, h.1.1))))

all_append : {X : Type 0} (P : X → Type 0) (xs ys : List X) → AllByRecursion P (xs ++ ys) ↔ (AllByRecursion P xs × AllByRecursion P ys)
all_append P [] ys = ((λ h. (tt, h)), (λ h. h.1))
all_append P (x ∷ xs) ys = let go = all_append P xs ys in ((λ h. let i = go.0 h.1 in ((h.0, i.0), i.1)), (λ h. (h.0.0, go.1 (h.0.1, h.1))))

-- ---- names that are declared once

pub lookup_append : {X : Type 0} (test : List ℕ → Bool) (a c : List (List ℕ × X)) → lookup test (a ++ c) ≡ option_or (lookup test a) (lookup test c)
lookup_append test [] c = refl
lookup_append test (e ∷ es) c = grind (arith, nat_tests, lookup_append test es c)

-- a name that isn't known with one entry more
apart : {A : Type 0} (known : List (List ℕ × A)) (x : List ℕ) (a : A) (y : List ℕ) →
    (lookup (bytes_eq y) (known ++ (x, a) ∷ []) ≡ None) ↔ ((bytes_eq x y ≡ false) × (lookup (bytes_eq y) known ≡ None))
apart {A} known x a y = rw (lookup_append (bytes_eq y) known ((x, a) ∷ [])) (by (lookup (bytes_eq y) known) (bytes_eq y x) (λ h. bytes_turned x y h) (λ h. bytes_turned y x h))
  where
    by : (o : Option A) (b : Bool) → (b ≡ false → bytes_eq x y ≡ false) → (bytes_eq x y ≡ false → b ≡ false) → (option_or o (cond b (Some a) None) ≡ None) ↔ ((bytes_eq x y ≡ false) × (o ≡ None))
    by None true turned back = ((λ h. cc), (λ h. absurd (true≢false (back h.0))))
    by None false turned back = ((λ h. (turned refl, refl)), (λ h. refl))
    by (Some v) b turned back = ((λ h. cc), (λ h. absurd (let f : Some v ≡ None = h.1 in cc)))

new : {A : Type 0} (o : Option A) (at : Span) → (o ≡ None) ↔ (repeated o at ≡ [])
new None at = ((λ h. refl), (λ h. refl))
new (Some x) at = ((λ h. cc), (λ h. cc))

-- names that are declared once, and none of which is known before
once : {A : Type 0} (known : List (List ℕ × A)) (es : List (Name × A)) →
    (IsDistinct bytes_eq (keys (entries es)) × AllByRecursion (λ y. lookup (bytes_eq y) known ≡ None) (keys (entries es))) ↔ (twice known es ≡ [])
unfolding IsDistinct
once known [] = ((λ h. refl), (λ h. (tt, tt)))
once known (e ∷ es) =
    let x = bytes_of e.0 in
    let more = known ++ (x, e.1) ∷ [] in
    let first = repeated (lookup (bytes_eq x) known) e.0.span in
    let here = new (lookup (bytes_eq x) known) e.0.span in
    let go = once more es in
    let all = all_pair (λ y. lookup (bytes_eq y) more ≡ None) (λ y. bytes_eq x y ≡ false) (λ y. lookup (bytes_eq y) known ≡ None) (apart known x e.1) (keys (entries es)) in (
      (λ h. both first _ (here.0 h.1.0) (go.0 (h.0.1, all.1 (h.0.0, h.1.1)))),
      (λ h. let i = go.1 (nil_right first _ h) in let a = all.0 i.1 in ((a.0, i.0), (here.1 (nil_left first _ h), a.1))),
    )

distinct : {A : Type 0} (es : List (Name × A)) → IsDistinct bytes_eq (keys (entries es)) ↔ (twice [] es ≡ [])
distinct es = let o = once [] es in ((λ h. o.0 (h, all_true (λ y. lookup (bytes_eq y) [] ≡ None) (λ y. refl) (keys (entries es)))), (λ h. (o.1 h).0))

-- ---- declarations

within : (limit n : ℕ) (at : Span) → (n < limit) ↔ (too_many limit n at ≡ [])
within limit n at = ((λ h. grind (arith, nat_tests)), (λ h. grind (arith, nat_tests)))

sound : (p : Process) → IsSound p ↔ (process_faults p ≡ [])
sound p = two (twice [] (locals_of p)) (body_faults (scope_of p) p.statements.items) (distinct (locals_of p)) (agrees_body (scope_of p) p.statements.items)

-- ---- hand-overs

-- where the channel has no such side, nobody has it
abbrev pub IsShut : Table → Direction → List ℕ → List Handover → Type 0
IsShut g d c hs = (kind : Kind) (role : Role) → lookup (bytes_eq c) g ≡ Some (IsChannel kind role) → is_closed d role ≡ true → ends d c hs ≡ []

abbrev pub IsFair : Table → Direction → List ℕ → List Handover → Type 0
IsFair g d c hs = AtMostOne (ends d c hs) × IsShut g d c hs

pub placed : (d : Direction) (k : Kind) (o : Option Global) (taken : List Side) (at : Span) → misplaced d k o taken at ≡ [] →
    (role : Role) × (o ≡ Some (IsChannel k role)) × (is_closed d role ≡ false) × (taken ≡ [])
placed d k (Some (IsChannel kind role)) taken at h = by (is_closed d role) refl taken (nil_right (wrong k kind at) _ h) ((kinds k kind at).1 (nil_left (wrong k kind at) _ h))
  where
    by : (b : Bool) → is_closed d role ≡ b → (xs : List Side) → overtaken d b xs at ≡ [] → kind ≡ k →
        (r : Role) × (Some (IsChannel kind role) ≡ Some (IsChannel k r)) × (is_closed d r ≡ false) × (xs ≡ [])
    by true e xs i same = cc
    by false e [] i same = (role, ap (λ z. Some (IsChannel z role)) same, e, refl)
    by false e (x ∷ xs) i same = cc
placed d k _ taken at h = cc

same_ways : (d e : Direction) → same_direction d e ≡ true → d ≡ e
same_ways In In h = refl
same_ways Out Out h = refl
same_ways _ _ h = cc

and_true : (a b : Bool) → (a && b) ≡ true → (a ≡ true) × (b ≡ true)
and_true true true h = (refl, refl)
and_true _ _ h = cc

-- one more argument
fair_argument : (t : Program) (before : List Handover) (e : Side) (w : Taking) (x : Argument) → argument_faults t before w x ≡ [] → (d : Direction) (c : List ℕ) →
    IsFair (entries (declared_of t.declarations.items)) d c before → IsFair (entries (declared_of t.declarations.items)) d c (before ++ handed e w x)
fair_argument t before e (T.Channel o k) (A.Channel n) h d c fair = by (same_direction d o && bytes_eq c (bytes_of n)) refl
  where
    by : (b : Bool) → (same_direction d o && bytes_eq c (bytes_of n)) ≡ b → IsFair (entries (declared_of t.declarations.items)) d c (before ++ handed e (T.Channel o k) (A.Channel n))
    by true i =
        let p = placed o k (global t n) (ends o (bytes_of n) before) n.span h in
        let j = and_true (same_direction d o) (bytes_eq c (bytes_of n)) i in
        let way = same_ways d o j.0 in
        let name = bytes_true c (bytes_of n) j.1 in
        let none : ends d c before ≡ [] = subst (λ z. ends z c before ≡ []) (sym way) (subst (λ z. ends o z before ≡ []) (sym name) p.3) in
        let all : ends d c (before ++ handed e (T.Channel o k) (A.Channel n)) ≡ e ∷ [] =
        ends_append d c before (handed e (T.Channel o k) (A.Channel n)) ∙ ap (λ z. z ++ ends d c (handed e (T.Channel o k) (A.Channel n))) none ∙ ap (λ b. cond b (e ∷ []) []) i in (
          subst AtMostOne (sym all) tt,
          λ kind role is shut.
              let same : Some (IsChannel kind role) ≡ Some (IsChannel k p.0) = sym is ∙ subst (λ z. lookup (bytes_eq z) (entries (declared_of t.declarations.items)) ≡ Some (IsChannel k p.0)) (sym name) p.1 in
              let r : role ≡ p.0 = cc in
              absurd (true≢false (sym shut ∙ subst (λ z. is_closed z role ≡ false) (sym way) (subst (λ z. is_closed o z ≡ false) (sym r) p.2))),
        )
    by false i =
        let all : ends d c (before ++ handed e (T.Channel o k) (A.Channel n)) ≡ ends d c before =
        ends_append d c before (handed e (T.Channel o k) (A.Channel n)) ∙ ap (λ b. ends d c before ++ cond b (e ∷ []) []) i ∙ append-nil (ends d c before) in
        (subst AtMostOne (sym all) fair.0, λ kind role is shut. all ∙ fair.1 kind role is shut)
fair_argument t before e (T.Value k) (A.Channel n) h d c fair = cc
fair_argument t before e (T.Value k) _ h d c fair = rw (append-nil before) fair
fair_argument t before e _ _ h d c fair = cc

fits : (t : Program) (before : List Handover) (w : Taking) (x : Argument) → argument_faults t before w x ≡ [] → Fits t w x
fits t before (T.Channel d k) (A.Channel n) h = let p = placed d k (global t n) (ends d (bytes_of n) before) n.span h in (p.0, p.1)
fits t before (T.Value k) (A.Number z at) h = sym ((kinds k K.Integer at).1 h)
fits t before (T.Value k) (A.Logical b at) h = sym ((kinds k K.Logical at).1 h)
fits t before _ _ h = cc

-- what these hand-overs are added to stays fair
abbrev KeepsFair : Program → List Handover → List Handover → Type 0
KeepsFair t before more = (d : Direction) (c : List ℕ) → IsFair (entries (declared_of t.declarations.items)) d c before → IsFair (entries (declared_of t.declarations.items)) d c (before ++ more)

fair_more : (t : Program) (before one more : List Handover) → KeepsFair t before one → KeepsFair t (before ++ one) more → KeepsFair t before (one ++ more)
fair_more t before one more f g d c fair = subst (IsFair (entries (declared_of t.declarations.items)) d c) (append_assoc before one more) (g d c (f d c fair))

all_fit : (t : Program) (before : List Handover) (i q : ℕ) (ps : List Parameter) (xs : List Argument) → length ps ≡ length xs → arguments_faults t before i q ps xs ≡ [] →
    AllFit t ps xs × KeepsFair t before (handed_in i q ps xs)
all_fit t before i q [] [] e h = (tt, λ d c fair. rw (append-nil before) fair)
all_fit t before i q (p ∷ ps) (x ∷ xs) e h =
    let one = handed (side_at i q) p.taking x in
    let here = argument_faults t before p.taking x in
    let go = all_fit t (before ++ one) i (suc q) ps xs (omega arith) (nil_right here _ h) in
    ((fits t before p.taking x (nil_left here _ h), go.0), fair_more t before one (handed_in i (suc q) ps xs) (fair_argument t before (side_at i q) p.taking x (nil_left here _ h)) go.1)
all_fit t before i q _ _ e h = absurd (omega arith)

counted : (n m : ℕ) (at : Span) → (n ≡ m) ↔ (miscounted n m at ≡ [])
counted n m at = ((λ h. grind (arith, nat_tests)), (λ h. grind (arith, nat_tests)))

-- ---- instances

made : (t : Program) (before : List Handover) (i : ℕ) (o : Option Global) (x : Instance) → made_faults t before i o x ≡ [] →
    ((p : Process) × (o ≡ Some (IsProcess p)) × AllFit t p.parameters.items x.arguments.items) × KeepsFair t before (handed_in i 0 (parameters_of o) x.arguments.items)
made t before i (Some (IsProcess p)) x h =
    let count = miscounted (length p.parameters.items) (length x.arguments.items) x.process.span in
    let go = all_fit t before i 0 p.parameters.items x.arguments.items ((counted _ _ x.process.span).1 (nil_left count _ h)) (nil_right count _ h) in ((p, refl, go.0), go.1)
made t before i _ x h = cc

all_made : (t : Program) (before : List Handover) (i : ℕ) (xs : List Instance) → instance_faults t before i xs ≡ [] → i ≤ most_instances →
    AllByRecursion (IsMade t) xs × (i + length xs ≤ most_instances) × KeepsFair t before (handed_from t i xs)
all_made t before i [] h le = (tt, omega arith, λ d c fair. rw (append-nil before) fair)
all_made t before i (x ∷ xs) h le =
    let limit = too_many most_instances i x.process.span in
    let j = nil_right limit _ h in
    let here = made_faults t before i (global t x.process) x in
    let lt = (within most_instances i x.process.span).1 (nil_left limit _ h) in
    let go = all_made t (before ++ handed_by t i x) (suc i) xs (nil_right here _ j) (omega (arith, lt)) in
    let one = made t before i (global t x.process) x (nil_left here _ j) in
    ((one.0, go.0), omega (arith, go.1), fair_more t before (handed_by t i x) (handed_from t (suc i) xs) one.1 go.2)

-- ---- channels

someone : (es : List Side) (f : CheckFault) → missing es f ≡ [] → AtMostOne es → IsOne es
someone [] f h a = cc
someone (e ∷ []) f h a = (e, refl)
someone (e ∷ g ∷ es) f h a = absurd a

pub wired : (t : Program) (n : Name) (kind : Kind) (role : Role) → side_faults t n role ≡ [] → lookup (bytes_eq (bytes_of n)) (entries (declared_of t.declarations.items)) ≡ Some (IsChannel kind role) →
    ((d : Direction) (c : List ℕ) → IsFair (entries (declared_of t.declarations.items)) d c (handed_from t 0 t.instances.items)) → IsWired t (n, (kind, role))
wired t n kind Inner h is fair =
    let w = missing (writers t (bytes_of n)) (Rattle.kahn_streams.specs.declared.fault.CheckFault.TheVariants.NoWriter n.span) in
    (someone (writers t (bytes_of n)) _ (nil_left w _ h) (fair Out (bytes_of n)).0, someone (readers t (bytes_of n)) _ (nil_right w _ h) (fair In (bytes_of n)).0)
wired t n kind Input h is fair = ((fair Out (bytes_of n)).1 kind Input is refl, someone (readers t (bytes_of n)) _ h (fair In (bytes_of n)).0)
wired t n kind Output h is fair = (someone (writers t (bytes_of n)) _ h (fair Out (bytes_of n)).0, (fair In (bytes_of n)).1 kind Output is refl)

wired_all : (t : Program) (cs : List (Name × (Kind × Role))) → sides_faults t cs ≡ [] →
    AllByRecursion (λ c. lookup (bytes_eq (bytes_of c.0)) (entries (declared_of t.declarations.items)) ≡ Some (IsChannel c.1.0 c.1.1)) cs →
    ((d : Direction) (c : List ℕ) → IsFair (entries (declared_of t.declarations.items)) d c (handed_from t 0 t.instances.items)) → AllByRecursion (IsWired t) cs
wired_all t [] h all fair = tt
wired_all t (c ∷ cs) h all fair = (wired t c.0 c.1.0 c.1.1 (nil_left (side_faults t c.0 c.1.1) _ h) all.0 fair, wired_all t cs (nil_right (side_faults t c.0 c.1.1) _ h) all.1 fair)

-- ---- the declarations, one after another

pub twice_append : {A : Type 0} (known : List (List ℕ × A)) (xs ys : List (Name × A)) → twice known (xs ++ ys) ≡ twice known xs ++ twice (known ++ entries xs) ys
twice_append known [] ys = ap (λ k. twice k ys) (sym (append-nil known))
twice_append known (x ∷ xs) ys =
    let here = repeated (lookup (bytes_eq (bytes_of x.0)) known) x.0.span in
    let more = known ++ (bytes_of x.0, x.1) ∷ [] in
    ap (λ r. here ++ r) (twice_append more xs ys)
    ∙ ap (λ k. here ++ (twice more xs ++ twice k ys)) (append_assoc known ((bytes_of x.0, x.1) ∷ []) (entries xs))
    ∙ sym (append_assoc here (twice more xs) (twice (known ++ (bytes_of x.0, x.1) ∷ entries xs) ys))

channels_once : (known : Table) (n : ℕ) (kind : Kind) (role : Role) (xs : List Name) →
    ((twice known (as_channels kind role xs) ≡ []) × (n + length xs ≤ most_channels)) ↔ ((channel_faults known n kind role xs ≡ []) × (n ≤ most_channels))
channels_once known n kind role [] = ((λ h. (refl, omega (arith, h.1))), (λ h. (refl, omega (arith, h.1))))
channels_once known n kind role (x ∷ xs) =
    let many = too_many most_channels n x.span in
    let limit = within most_channels n x.span in
    let name = repeated (lookup (bytes_eq (bytes_of x)) known) x.span in
    let go = channels_once (known ++ (bytes_of x, IsChannel kind role) ∷ []) (suc n) kind role xs in (
      (λ h.
          let i = go.0 (nil_right name _ h.0, omega (arith, h.1)) in
          (both many _ (limit.0 (omega (arith, h.1))) (both name _ (nil_left name _ h.0) i.0), omega (arith, h.1))),
      (λ h.
          let j = nil_right many _ h.0 in
          let lt = limit.1 (nil_left many _ h.0) in
          let i = go.1 (nil_right name _ j, omega (arith, lt)) in
          (both name _ (nil_left name _ j) i.0, omega (arith, i.1))),
    )

declared : (known : Table) (n : ℕ) (ds : List Declaration) →
    ((twice known (declared_of ds) ≡ []) × AllByRecursion IsSound (processes_of ds) × (n + length (declared_channels ds) ≤ most_channels)) ↔ ((declaration_faults known n ds ≡ []) × (n ≤ most_channels))
declared known n [] = ((λ h. (refl, omega (arith, h.2))), (λ h. (refl, tt, omega (arith, h.1))))
declared known n (D.Channels kind role names ∷ rest) =
    let mine = as_channels kind role names.items in
    let here = channel_faults known n kind role names.items in
    let c = channels_once known n kind role names.items in
    let go = declared (known ++ entries mine) (n + length names.items) rest in
    let parts = twice_append known mine (declared_of rest) in
    let sum : length (declared_channels (D.Channels kind role names ∷ rest)) ≡ length names.items + length (declared_channels rest) =
    omega (arith, length-append (map (λ n. (n, (kind, role))) names.items) (declared_channels rest), length-map {B = Name × (Kind × Role)} names.items (λ n. (n, (kind, role)))) in (
      (λ h.
          let p = sym parts ∙ h.0 in
          let i = c.0 (nil_left (twice known mine) _ p, omega (arith, h.2, sum)) in
          (both here _ i.0 (go.0 (nil_right (twice known mine) _ p, h.1, omega (arith, h.2, sum))).0, i.1)),
      (λ h.
          let i = c.1 (nil_left here _ h.0, h.1) in
          let j = go.1 (nil_right here _ h.0, i.1) in
          (parts ∙ both (twice known mine) _ i.0 j.0, j.1, omega (arith, j.2, sum))),
    )
declared known n (D.Process p ∷ rest) =
    let name = repeated (lookup (bytes_eq (bytes_of p.name)) known) p.name.span in
    let go = declared (known ++ (bytes_of p.name, IsProcess p) ∷ []) n rest in (
      (λ h. let j = go.0 (nil_right name _ h.0, h.1.1, h.2) in (both name _ (nil_left name _ h.0) (both (process_faults p) _ ((sound p).0 h.1.0) j.0), j.1)),
      (λ h.
          let i = nil_right name _ h.0 in
          let j = go.1 (nil_right (process_faults p) _ i, h.1) in
          (both name _ (nil_left name _ h.0) j.0, ((sound p).1 (nil_left (process_faults p) _ i), j.1), j.2)),
    )

lookup_skip : {A : Type 0} (test : List ℕ → Bool) (known ys : List (List ℕ × A)) → lookup test known ≡ None → lookup test (known ++ ys) ≡ lookup test ys
lookup_skip test known ys h = lookup_append test known ys ∙ ap (λ o. option_or o (lookup test ys)) h

-- each name stands for what its own declaration says
found : {A : Type 0} (known : List (List ℕ × A)) (es : List (Name × A)) → twice known es ≡ [] →
    AllByRecursion (λ e. lookup (bytes_eq (bytes_of e.0)) (known ++ entries es) ≡ Some e.1) es
found known [] h = tt
found known (e ∷ es) h =
    let x = bytes_of e.0 in
    let first = repeated (lookup (bytes_eq x) known) e.0.span in
    let fresh = (new (lookup (bytes_eq x) known) e.0.span).1 (nil_left first _ h) in
    let go = found (known ++ (x, e.1) ∷ []) es (nil_right first _ h) in (
      lookup_skip (bytes_eq x) known ((x, e.1) ∷ entries es) fresh ∙ ap (λ b. cond b (Some e.1) (lookup (bytes_eq x) (entries es))) (bytes_self x),
      subst (λ k. AllByRecursion (λ f. lookup (bytes_eq (bytes_of f.0)) k ≡ Some f.1) es) (append_assoc known ((x, e.1) ∷ []) (entries es)) go,
    )

abbrev StandsFor : Table → Name × Global → Type 0
StandsFor g e = lookup (bytes_eq (bytes_of e.0)) g ≡ Some e.1

abbrev IsListed : Table → Name × (Kind × Role) → Type 0
IsListed g c = lookup (bytes_eq (bytes_of c.0)) g ≡ Some (IsChannel c.1.0 c.1.1)

listed_names : (g : Table) (kind : Kind) (role : Role) (xs : List Name) → AllByRecursion (StandsFor g) (as_channels kind role xs) → AllByRecursion (IsListed g) (map (λ n. (n, (kind, role))) xs)
listed_names g kind role [] h = tt
listed_names g kind role (x ∷ xs) h = (h.0, listed_names g kind role xs h.1)

listed : (g : Table) (ds : List Declaration) → AllByRecursion (StandsFor g) (declared_of ds) → AllByRecursion (IsListed g) (declared_channels ds)
listed g [] h = tt
listed g (D.Channels kind role names ∷ rest) h =
    let apart = (all_append (StandsFor g) (as_channels kind role names.items) (declared_of rest)).0 h in
    (all_append (IsListed g) (map (λ n. (n, (kind, role))) names.items) (declared_channels rest)).1 (listed_names g kind role names.items apart.0, listed g rest apart.1)
listed g (D.Process p ∷ rest) h = listed g rest h.1

-- ---- the whole program

pub well_wired : (t : Program) → faults t ≡ [] → IsWellWired t
well_wired t h =
    let ds = t.declarations.items in
    let j = nil_right (declaration_faults [] 0 ds) (instance_faults t [] 0 t.instances.items ++ sides_faults t (declared_channels ds)) h in
    let first = (declared [] 0 ds).1 (nil_left (declaration_faults [] 0 ds) _ h, omega arith) in
    let faultless = nil_left (instance_faults t [] 0 t.instances.items) _ j in
    let all = all_made t [] 0 t.instances.items faultless (omega arith) in
    let fair = λ (d : Direction) (c : List ℕ). all.2 d c (tt, λ kind role is shut. refl) in
    record {
      names = (distinct (declared_of ds)).1 first.0;
      processes = first.1;
      instances = all.0;
      channels = wired_all t (declared_channels ds) (nil_right (instance_faults t [] 0 t.instances.items) _ j) (listed (entries (declared_of ds)) ds (found [] (declared_of ds) first.0)) fair;
      channel_limit = omega (arith, first.2);
      instance_limit = omega (arith, all.1);
    }

-- ---- a name that stands for a channel is one of the channels

in_names : (P : Name × (Kind × Role) → Type 0) (c : List ℕ) (kind j : Kind) (role r : Role) (xs : List Name) (rest : Table) → lookup (bytes_eq c) (entries (as_channels j r xs) ++ rest) ≡ Some (IsChannel kind role) →
    AllByRecursion P (map (λ n. (n, (j, r))) xs) → ((n : Name) × (c ≡ bytes_of n) × P (n, (kind, role))) ⊎ (lookup (bytes_eq c) rest ≡ Some (IsChannel kind role))
in_names P c kind j role r [] rest h all = inr h
in_names P c kind j role r (x ∷ xs) rest h all =
    ⊎_elim (λ (e, f). let same : j ≡ kind = cc in let alike : r ≡ role = cc in inl (x, bytes_true c (bytes_of x) e, subst (λ z. P (x, (z, role))) same (subst (λ z. P (x, (j, z))) alike all.0)))
    (λ (e, i). in_names P c kind j role r xs rest i all.1) (found_in (bytes_eq c (bytes_of x)) (IsChannel j r) (IsChannel kind role) _ h)

a_channel : (P : Name × (Kind × Role) → Type 0) (c : List ℕ) (kind : Kind) (role : Role) (ds : List Declaration) → lookup (bytes_eq c) (entries (declared_of ds)) ≡ Some (IsChannel kind role) →
    AllByRecursion P (declared_channels ds) → (n : Name) × (c ≡ bytes_of n) × P (n, (kind, role))
a_channel P c kind role [] h all = cc
a_channel P c kind role (D.Channels j r names ∷ rest) h all =
    let mine = as_channels j r names.items in
    let apart = (all_append P (map (λ n. (n, (j, r))) names.items) (declared_channels rest)).0 all in
    let split = ap (lookup (bytes_eq c)) (sym (map-append (λ (e : Name × Global). (bytes_of e.0, e.1)) mine (declared_of rest))) ∙ h in
    elim (in_names P c kind j role r names.items (entries (declared_of rest)) split apart.0) [
      | inl x ↦ x
      | inr i ↦ a_channel P c kind role rest i apart.1
    ]
a_channel P c kind role (D.Process p ∷ rest) h all =
    ⊎_elim (λ (e, f). cc) (λ (e, i). a_channel P c kind role rest i all) (found_in (bytes_eq c (bytes_of p.name)) (IsProcess p) (IsChannel kind role) _ h)

-- ---- hand-overs of a well wired program

abbrev IsServedIn : Program → Type 0
IsServedIn t = (d : Direction) (c : List ℕ) (kind : Kind) (role : Role) → lookup (bytes_eq c) (entries (declared_of t.declarations.items)) ≡ Some (IsChannel kind role) →
    IsServed d role (ends d c (handed_from t 0 t.instances.items))

-- nothing comes before one of at most one
first_of : (xs ys : List Side) (e : Side) → AtMostOne (xs ++ e ∷ ys) → xs ≡ []
first_of [] ys e h = refl
first_of (x ∷ []) ys e h = absurd h
first_of (x ∷ (y ∷ xs)) ys e h = absurd h

same_self : (d : Direction) → same_direction d d ≡ true
same_self In = refl
same_self Out = refl

hit : (d : Direction) (k : Kind) (e : Side) (n : Name) (hs : List Handover) → ends d (bytes_of n) (handed e (T.Channel d k) (A.Channel n) ++ hs) ≡ e ∷ ends d (bytes_of n) hs
hit d k e n hs =
    ap (λ b. cond (b && bytes_eq (bytes_of n) (bytes_of n)) (e ∷ ends d (bytes_of n) hs) (ends d (bytes_of n) hs)) (same_self d)
    ∙ ap (λ b. cond b (e ∷ ends d (bytes_of n) hs) (ends d (bytes_of n) hs)) (bytes_self (bytes_of n))

unplaced : (d : Direction) (k : Kind) (o : Option Global) (role : Role) (taken : List Side) (at : Span) → o ≡ Some (IsChannel k role) → is_closed d role ≡ false → taken ≡ [] → misplaced d k o taken at ≡ []
unplaced d k o role taken at h i j =
    ap (λ z. misplaced d k z taken at) h
    ∙ both (wrong k k at) _ ((kinds k k at).0 refl) (ap (λ b. overtaken d b taken at) i ∙ ap (λ z. overtaken d false z at) j)

unargument : (t : Program) (before after : List Handover) (e : Side) (w : Taking) (x : Argument) → IsServedIn t → Fits t w x →
    before ++ (handed e w x ++ after) ≡ handed_from t 0 t.instances.items → argument_faults t before w x ≡ []
unargument t before after e (T.Channel d k) (A.Channel n) serve h all =
    let role = h.0 in
    let c = bytes_of n in
    let s = serve d c k role h.1 in
    let parts : ends d c (handed_from t 0 t.instances.items) ≡ ends d c before ++ e ∷ ends d c after =
    ap (ends d c) (sym all) ∙ ends_append d c before (handed e (T.Channel d k) (A.Channel n) ++ after) ∙ ap (λ z. ends d c before ++ z) (hit d k e n after) in
    let none = first_of (ends d c before) (ends d c after) e (subst AtMostOne parts s.0) in
    let free = false_from_ne_true (is_closed d role) (λ i. let rest = nil_right (ends d c before) (e ∷ ends d c after) (sym parts ∙ s.1 i) in cc) in
    unplaced d k (global t n) role (ends d c before) n.span h.1 free none
unargument t before after e (T.Value k) (A.Number z at) serve h all = (kinds k K.Integer at).0 (sym h)
unargument t before after e (T.Value k) (A.Logical b at) serve h all = (kinds k K.Logical at).0 (sym h)
unargument t before after e _ _ serve h all = absurd h

unarguments : (t : Program) (before after : List Handover) (i q : ℕ) (ps : List Parameter) (xs : List Argument) → IsServedIn t → AllFit t ps xs →
    before ++ (handed_in i q ps xs ++ after) ≡ handed_from t 0 t.instances.items → (length ps ≡ length xs) × (arguments_faults t before i q ps xs ≡ [])
unarguments t before after i q [] [] serve h all = (refl, refl)
unarguments t before after i q (p ∷ ps) (x ∷ xs) serve h all =
    let one = handed (side_at i q) p.taking x in
    let rest = handed_in i (suc q) ps xs in
    let here = ap (λ z. before ++ z) (sym (append_assoc one rest after)) ∙ all in
    let go = unarguments t (before ++ one) after i (suc q) ps xs serve h.1 (append_assoc before one (rest ++ after) ∙ here) in
    (ap suc go.0, both (argument_faults t before p.taking x) _ (unargument t before (rest ++ after) (side_at i q) p.taking x serve h.0 here) go.1)
unarguments t before after i q _ _ serve h all = absurd h

unmade : (t : Program) (before after : List Handover) (i : ℕ) (o : Option Global) (x : Instance) → IsServedIn t → (p : Process) → o ≡ Some (IsProcess p) → AllFit t p.parameters.items x.arguments.items →
    before ++ (handed_in i 0 (parameters_of o) x.arguments.items ++ after) ≡ handed_from t 0 t.instances.items → made_faults t before i o x ≡ []
unmade t before after i o x serve p is h all =
    let here = subst (λ z. before ++ (handed_in i 0 (parameters_of z) x.arguments.items ++ after) ≡ handed_from t 0 t.instances.items) is all in
    let go = unarguments t before after i 0 p.parameters.items x.arguments.items serve h here in
    ap (λ z. made_faults t before i z x) is
    ∙ both (miscounted (length p.parameters.items) (length x.arguments.items) x.process.span) _ ((counted _ _ x.process.span).0 go.0) go.1

uninstances : (t : Program) (before : List Handover) (i : ℕ) (xs : List Instance) → IsServedIn t → AllByRecursion (IsMade t) xs → i + length xs ≤ most_instances →
    before ++ handed_from t i xs ≡ handed_from t 0 t.instances.items → instance_faults t before i xs ≡ []
uninstances t before i [] serve h le all = refl
uninstances t before i (x ∷ xs) serve h le all =
    let m = h.0 in
    let go = uninstances t (before ++ handed_by t i x) (suc i) xs serve h.1 (omega arith) (append_assoc before (handed_by t i x) (handed_from t (suc i) xs) ∙ all) in
    both (too_many most_instances i x.process.span) _ ((within most_instances i x.process.span).0 (omega arith))
    (both (made_faults t before i (global t x.process) x) _ (unmade t before (handed_from t (suc i) xs) i (global t x.process) x serve m.0 m.1 m.2 all) go)

-- ---- sides of channels

present : (es : List Side) (f : CheckFault) → IsOne es → missing es f ≡ []
present es f h = ap (λ z. missing z f) h.1

unside : (t : Program) (n : Name) (kind : Kind) (role : Role) → IsWired t (n, (kind, role)) → side_faults t n role ≡ []
unside t n kind Inner h = both (missing (writers t (bytes_of n)) _) _ (present (writers t (bytes_of n)) _ h.0) (present (readers t (bytes_of n)) _ h.1)
unside t n kind Input h = present (readers t (bytes_of n)) _ h.1
unside t n kind Output h = present (writers t (bytes_of n)) _ h.0

unsides : (t : Program) (cs : List (Name × (Kind × Role))) → AllByRecursion (IsWired t) cs → sides_faults t cs ≡ []
unsides t [] h = refl
unsides t (c ∷ cs) h = both (side_faults t c.0 c.1.1) _ (unside t c.0 c.1.0 c.1.1 h.0) (unsides t cs h.1)

-- ---- the whole program, the other way

pub faultless : (t : Program) → IsWellWired t → faults t ≡ []
faultless t h =
    let ds = t.declarations.items in
    let serve = λ (d : Direction) (c : List ℕ) (kind : Kind) (role : Role) (is : lookup (bytes_eq c) (entries (declared_of ds)) ≡ Some (IsChannel kind role)).
    (let n = a_channel (IsWired t) c kind role ds is h.channels in
    subst (λ z. IsServed d role (ends d z (handed_from t 0 t.instances.items))) (sym n.1) (served t n.0 kind role d n.2)) in
    both (declaration_faults [] 0 ds) _ ((declared [] 0 ds).0 ((distinct (declared_of ds)).0 h.names, h.processes, omega (arith, h.channel_limit))).0
    (both (instance_faults t [] 0 t.instances.items) _ (uninstances t [] 0 t.instances.items serve h.instances (omega (arith, h.instance_limit)) refl) (unsides t (declared_channels ds) h.channels))
