-- What an instance's names stand for, by what is handed to it.
use Rattle.kahn_streams.proofs.Common.{◌≡◌, List, ◌∷◌, ◌++◌, map, Some, refl, ap, sym, ◌∙◌, subst, AllByRecursion, get_or_from_slice_get, Name, Kind, Role, Taking, OneVariable as Variable, Process, Argument, Program, Inner, In, Out, bytes_of, names_of, body_of, number_of, Agrees, scope_of, entries, IsChannel, global, Fits, AllFit, IsMade, IsSound, IsWellWired, actual_of, actuals_of, process_of, instance_from, network_of, kind_at, channel_names, taking_of, IsListed, IsFit, []}
use Rattle.std.specs.Prelude.{slice_get}
use Rattle.kahn_streams.specs.Types.{Parameter, Instance}
use Rattle.kahn_streams.specs.declared.tree.Kind.TheVariants as K
use Rattle.kahn_streams.specs.declared.tree.Taking.TheVariants as T
use Rattle.kahn_streams.specs.declared.tree.Argument.TheVariants as A
use Rattle.kahn_streams.proofs.By_number.{declared_at, within, the_process, of_process}

-- a channel that is handed over is one of the network's and has its kind
handed_channel : (t : Program) (n : Name) (kind : Kind) (role : Role) → global t n ≡ Some (IsChannel kind role) →
    slice_get (network_of t).channels (number_of (channel_names t) n) ≡ Some (kind, role)
handed_channel t n kind role h = declared_at (bytes_of n) kind role t.declarations.items h

handed_kind : (t : Program) (n : Name) (kind : Kind) (role : Role) → global t n ≡ Some (IsChannel kind role) → kind_at (network_of t) (number_of (channel_names t) n) ≡ kind
handed_kind t n kind role h =
    ap (λ (z : Kind × Role). z.0) (get_or_from_slice_get (network_of t).channels (number_of (channel_names t) n) (kind, role) (K.Integer, Inner) (handed_channel t n kind role h))

one_taking : (t : Program) (w : Taking) (x : Argument) → Fits t w x → (taking_of (network_of t) (actual_of (channel_names t) w x) ≡ w) × IsListed (network_of t) (actual_of (channel_names t) w x)
one_taking t (T.Channel In k) (A.Channel n) h = (ap (T.Channel In) (handed_kind t n k h.0 h.1), within (network_of t).channels (number_of (channel_names t) n) (k, h.0) (handed_channel t n k h.0 h.1))
one_taking t (T.Channel Out k) (A.Channel n) h = (ap (T.Channel Out) (handed_kind t n k h.0 h.1), within (network_of t).channels (number_of (channel_names t) n) (k, h.0) (handed_channel t n k h.0 h.1))
one_taking t (T.Value k) (A.Number z at) h = (ap T.Value (sym h), tt)
one_taking t (T.Value k) (A.Logical b at) h = (ap T.Value (sym h), tt)
one_taking t _ _ h = absurd h

all_takings : (t : Program) (ps : List Parameter) (xs : List Argument) → AllFit t ps xs →
    (map (taking_of (network_of t)) (actuals_of (channel_names t) ps xs) ≡ map (λ q. q.taking) ps) × AllByRecursion (IsListed (network_of t)) (actuals_of (channel_names t) ps xs)
all_takings t [] [] h = (refl, tt)
all_takings t (p ∷ ps) (x ∷ xs) h =
    let one = one_taking t p.taking x h.0 in
    let rest = all_takings t ps xs h.1 in
    ((λ j. one.0 j ∷ rest.0 j), (one.1, rest.1))
all_takings t _ _ h = absurd h

-- the scope of a process, split
scope_takings : (ps : List Parameter) (vs : List Variable) →
    map (λ e. e.1) (entries (map (λ q. (q.name, q.taking)) ps ++ map (λ v. (v.name, T.Value v.kind)) vs)) ≡ map (λ q. q.taking) ps ++ map (λ k. T.Value k) (map (λ v. v.kind) vs)
scope_takings [] [] = refl
scope_takings [] (v ∷ vs) = ap (λ z. T.Value v.kind ∷ z) (scope_takings [] vs)
scope_takings (p ∷ ps) vs = ap (λ z. p.taking ∷ z) (scope_takings ps vs)

scope_names : (ps : List Parameter) (vs : List Variable) →
    map (λ e. e.0) (entries (map (λ q. (q.name, q.taking)) ps ++ map (λ v. (v.name, T.Value v.kind)) vs)) ≡ map (λ q. bytes_of q.name) ps ++ map (λ v. bytes_of v.name) vs
scope_names [] [] = refl
scope_names [] (v ∷ vs) = ap (λ z. bytes_of v.name ∷ z) (scope_names [] vs)
scope_names (p ∷ ps) vs = ap (λ z. bytes_of p.name ∷ z) (scope_names ps vs)

-- an instance of a sound process, handed what fits
made_fit : (t : Program) (p : Process) (xs : List Argument) → IsSound p → AllFit t p.parameters.items xs → IsFit (network_of t) (instance_from (channel_names t) (Some p) xs)
made_fit t p xs sound fit =
    let takings = all_takings t p.parameters.items xs fit in
    let kinds = map (λ k. T.Value k) (map (λ (v : Variable). v.kind) p.variables.items) in
    let same = scope_takings p.parameters.items p.variables.items ∙ ap (λ z. z ++ kinds) (sym takings.0) in
    let alike = scope_names p.parameters.items p.variables.items in
    (subst (λ z. Agrees z (body_of (names_of p) p.statements.items)) same (subst (λ z. Agrees (map (λ e. e.1) (scope_of p)) (body_of z p.statements.items)) alike sound.1), takings.1)

all_fit : (t : Program) → IsWellWired t → (ys : List Instance) → AllByRecursion (IsMade t) ys →
    AllByRecursion (IsFit (network_of t)) (map (λ y. instance_from (channel_names t) (process_of t.declarations.items (bytes_of y.process)) y.arguments.items) ys)
all_fit t h [] m = tt
all_fit t h (y ∷ ys) m =
    let p = m.0.0 in
    let is = the_process (bytes_of y.process) p t.declarations.items m.0.1 in
    let sound = of_process IsSound (bytes_of y.process) p t.declarations.items h.processes is in
    (subst (λ z. IsFit (network_of t) (instance_from (channel_names t) z y.arguments.items)) (sym is) (made_fit t p y.arguments.items sound m.0.2), all_fit t h ys m.1)

pub instances_fit : (t : Program) → IsWellWired t → AllByRecursion (IsFit (network_of t)) (network_of t).instances
instances_fit t h = all_fit t h t.instances.items h.instances
