-- Values and ends of edges by the names of parameters.
use Rattle.kahn_graph.proofs.Common.{Argument, Bool, End, IfSome, IsEdge, IsOnly, IsPortText, IsReader, IsWaitMark, IsWithin, IsWriter, Kind, List, Schema, None, Option, Parameter, Process, Program, Role, Scope, Side, Some, Stream, [], actuals_of, ap, ap₂, arith, bytes_of, cases_lt, channel_names, codes, concat, drop, drop_of_length-le, edge_text, if◌then◌else◌, inl, inr, instance_at, instance_from, kind_at, length, length-map, map, mark_text, min, network_of, process_of, refl, role_at, slice_get, stands, sym, values_text, ℕ, ⊎_elim, ◌++◌, ◌+◌, ◌<◌, ◌∙◌, ◌∷◌, ◌≡◌, ◌≤◌, ◌⊎◌, add-one}
use Rattle.kahn_streams.proofs.Entered.{drop_some}

-- ---- values

front : {X : Type 0} (xs : List X) (k : ℕ) (x : X) → slice_get xs k ≡ Some x → drop k xs ≡ x ∷ drop (k + 1) xs
front xs k x e = drop_some xs k x e ∙ ap (λ j. x ∷ drop j xs) (sym (add-one k))

pub next_value : (before : List ℕ) (qs : List Parameter) (xs : List Argument) (k : ℕ) (q : Parameter) (x : Argument) → slice_get qs k ≡ Some q → slice_get xs k ≡ Some x
    → values_text before (drop k qs) (drop k xs) ≡ values_text before (q ∷ drop (k + 1) qs) (x ∷ drop (k + 1) xs)
next_value before qs xs k q x e f = ap₂ (values_text before) (front qs k q e) (front xs k x f)

no_argument : (before : List ℕ) (qs : List Parameter) → values_text before qs [] ≡ []
no_argument before [] = refl
no_argument before (q ∷ qs) = refl

pub no_value_more : (before : List ℕ) (qs : List Parameter) (xs : List Argument) (k : ℕ) → (length qs ≤ k) ⊎ (length xs ≤ k) → values_text before (drop k qs) (drop k xs) ≡ []
no_value_more before qs xs k (inl le) = ap (λ l. values_text before l (drop k xs)) (drop_of_length-le qs le)
no_value_more before qs xs k (inr le) = ap (values_text before (drop k qs)) (drop_of_length-le xs le) ∙ no_argument before (drop k qs)

-- nothing is left behind the last of the shorter list
pub values_end : (before : List ℕ) (qs : List Parameter) (xs : List Argument) (n k : ℕ) → n ≡ min (length xs) (length qs) → n ≤ k
    → values_text before (drop k qs) (drop k xs) ≡ []
values_end before qs xs n k e le = ⊎_elim few_arguments few_parameters (cases_lt (length xs) (length qs))
  where
    few_arguments : length xs < length qs → values_text before (drop k qs) (drop k xs) ≡ []
    few_arguments lt = no_value_more before qs xs k (inr (omega (arith, e, le, lt)))

    few_parameters : length qs ≤ length xs → values_text before (drop k qs) (drop k xs) ≡ []
    few_parameters ge = no_value_more before qs xs k (inl (omega (arith, e, le, ge)))

-- ---- sides

few_actuals : (names : Scope) (qs : List Parameter) (xs : List Argument) → length (actuals_of names qs xs) ≤ length qs
few_actuals names [] xs = omega arith
few_actuals names (q ∷ qs) [] = omega arith
few_actuals names (q ∷ qs) (x ∷ xs) = let less = few_actuals names qs xs in omega (arith, less)

pub port_within : (N : Schema) (names : Scope) (p : Process) (xs : List Argument) (s : Side) → IsWithin N s → instance_at N s.instance ≡ instance_from names (Some p) xs
    → s.parameter < length p.parameters.items
port_within N names p xs s within e =
    let same : length (instance_at N s.instance).actuals ≡ length (actuals_of names p.parameters.items xs) = ap (λ i. length i.actuals) e in
    let less : length (actuals_of names p.parameters.items xs) ≤ length p.parameters.items = few_actuals names p.parameters.items xs in
    omega (arith, within.1, same, less)

pub writer_within : (N : Schema) (c : ℕ) (o : Option Side) → IsOnly (IsWriter N c) o → IfSome o (IsWithin N)
writer_within N c None only = tt
writer_within N c (Some s) only = only.0.0

pub reader_within : (N : Schema) (c : ℕ) (o : Option Side) → IsOnly (IsReader N c) o → IfSome o (IsWithin N)
reader_within N c None only = tt
reader_within N c (Some s) only = only.0.0

-- ---- edges

pub edge_of : (t : Program) (streams : List Stream) (ends : List End) (c : ℕ) (name tail head : List ℕ) (kind : Kind) (role : Role) (writer reader : Option Side) (ring : Bool)
    → slice_get (channel_names t) c ≡ Some name → kind ≡ kind_at (network_of t) c → role ≡ role_at (network_of t) c
    → IsOnly (IsWriter (network_of t) c) writer → IsOnly (IsReader (network_of t) c) reader
    → IsPortText t (codes "taillabel") writer tail → IsPortText t (codes "headlabel") reader head → IsWaitMark (network_of t) (map stands ends) c ring
    → IsEdge t streams ends c (mark_text c role ++ (edge_text streams c name kind writer reader ++ (tail ++ (head ++ concat ((if ring then codes ", color=red, penwidth=2" else []) ∷ codes "];\n" ∷ [])))))
edge_of t streams ends c name tail head kind role writer reader ring e k r w d it ih m = (
  name,
  writer,
  reader,
  tail,
  head,
  ring,
  e,
  w,
  d,
  it,
  ih,
  m,
  ap₂ (λ x y. mark_text c x ++ (edge_text streams c name y writer reader ++ (tail ++ (head ++ concat ((if ring then codes ", color=red, penwidth=2" else []) ∷ codes "];\n" ∷ []))))) r k,
)

-- as many instances as the tree has
pub as_many_trees : (t : Program) (i : ℕ) → i < length (network_of t).instances → i < length t.instances.items
as_many_trees t i le =
    let same : length (network_of t).instances ≡ length t.instances.items =
    length-map t.instances.items (λ x. instance_from (channel_names t) (process_of t.declarations.items (bytes_of x.process)) x.arguments.items) in
    omega (arith, le, same)
