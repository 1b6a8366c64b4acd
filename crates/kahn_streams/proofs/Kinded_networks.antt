-- The instances of a well wired program keep kinds, and so do the iterates.
use Rattle.kahn_streams.proofs.Common.{Actual, Reads, Writes, ◌≡◌, ◌≢◌, ℕ, zero, suc, pos, Bool, true, false, List, ◌∷◌, ◌++◌, map, Some, refl, sym, ap, ◌∙◌, eqb-true, slice_get, slice_index_or, if◌then◌else◌, AllByRecursion, Kind, Role, Direction, Taking, Program, Value, Inner, Input, Output, In, Out, Number, IsWellWired, Hands, Node, Schema, instance_at, actual_at, kind_at, role_at, is_written, any_written, first_writer, source_by, Source, Given, Written, Nobody, network_of, Channel, Port, Parameter, Printer, Give, Store, script_of, Histories, opening_of, default_of, opening, tape_of, tapes_of, exec_at, goes_to, values_at, out, source, fed, iterate, kind_of_value, AreOfKind, IsListFor, IsInputFor, Lists, inputs_of, AreKinded, taking_of, takings_of, IsFit, []}
use Rattle.kahn_streams.specs.declared.tree.Kind.TheVariants as K
use Rattle.kahn_streams.specs.declared.tree.Taking.TheVariants as T
use Rattle.kahn_streams.proofs.{Dry.fit_at, Fitted.instances_fit}
use Rattle.kahn_streams.proofs.Kinded.{HoldsKind, IsStored, IsTaken, IsSent, IsKept, AreTapesKept, script_kept, play_kept, constant_kept}

all_from : {X : Type 0} (P Q : X → Type 0) → ((x : X) → P x → Q x) → (xs : List X) → AllByRecursion P xs → AllByRecursion Q xs
all_from P Q f [] h = tt
all_from P Q f (x ∷ xs) h = (f x h.0, all_from P Q f xs h.1)

-- ---- what an instance opens with

default_kept : (k : Kind) → kind_of_value (default_of k) ≡ k
default_kept K.Integer = refl
default_kept K.Logical = refl

variables_kept : (ks : List Kind) → IsStored (map (λ k. T.Value k) ks) (map default_of ks)
variables_kept [] = tt
variables_kept (k ∷ ks) = (default_kept k, variables_kept ks)

actual_kept : (N : Schema) (a : Actual) → HoldsKind (taking_of N a) (opening_of a)
actual_kept N (Hands v) = constant_kept v
actual_kept N _ = tt

opening_kept : (N : Schema) (xs : List Actual) (ks : List Kind) → IsStored (map (taking_of N) xs ++ map (λ k. T.Value k) ks) (map opening_of xs ++ map default_of ks)
opening_kept N [] ks = variables_kept ks
opening_kept N (x ∷ xs) ks = (actual_kept N x, opening_kept N xs ks)

-- ---- its tapes

-- each channel's history has the channel's kind
tape_kept : (N : Schema) (H : Histories) (a : Actual) → AreKinded N H →
    AllByRecursion (λ v. Some (taking_of N a) ≡ Some (T.Channel In (kind_of_value v))) (tape_of H a)
tape_kept N H (Reads c) g =
    all_from (λ v. kind_of_value v ≡ kind_at N c) (λ v. Some (T.Channel In (kind_at N c)) ≡ Some (T.Channel In (kind_of_value v)))
    (λ v e. ap (λ z. Some (T.Channel In z)) (sym e)) (H (Channel c)) (g c)
tape_kept N H _ g = tt

tapes_kept : (N : Schema) (H : Histories) (xs : List Actual) (ks : List Kind) → AreKinded N H → (q : ℕ) →
    AllByRecursion (IsTaken (map (taking_of N) xs ++ map (λ k. T.Value k) ks) q) (tape_of H (slice_index_or xs q (Hands (Number (pos 0)))))
tapes_kept N H [] ks g q = tt
tapes_kept N H (x ∷ xs) ks g zero = tape_kept N H x g
tapes_kept N H (x ∷ xs) ks g (suc q) = tapes_kept N H xs ks g q

-- ---- where it sends

same_sent : (d : Direction) (k j : Kind) → Some (T.Channel d k) ≡ Some (T.Channel Out j) → k ≡ j
same_sent d k j e = cc

written_kept : (N : Schema) (a : Actual) (c : ℕ) (j : Kind) → Some (taking_of N a) ≡ Some (T.Channel Out j) → is_written a c ≡ true → j ≡ kind_at N c
written_kept N (Writes d) c j e i = sym (same_sent Out (kind_at N d) j e) ∙ ap (kind_at N) (eqb-true d c i)
written_kept N _ c j e i = cc

sends_kept : (N : Schema) (xs : List Actual) (ks : List Kind) (q c : ℕ) (j : Kind) → slice_get (map (taking_of N) xs ++ map (λ k. T.Value k) ks) q ≡ Some (T.Channel Out j) →
    is_written (slice_index_or xs q (Hands (Number (pos 0)))) c ≡ true → j ≡ kind_at N c
sends_kept N [] ks q c j e i = cc
sends_kept N (x ∷ xs) ks zero c j e i = written_kept N x c j e i
sends_kept N (x ∷ xs) ks (suc q) c j e i = sends_kept N xs ks q c j e i

-- ---- an instance

-- an instance whose parameters agree with their channels, and whose body keeps kinds
record KeepsKinds (N : Schema) (i : Node) : Type 0 where
  names : List Taking
  takes : (H : Histories) → AreKinded N H → AreTapesKept names (tapes_of i H)
  sends : (q c : ℕ) (j : Kind) → slice_get names q ≡ Some (T.Channel Out j) → is_written (actual_at i q) c ≡ true → j ≡ kind_at N c
  body : (n : ℕ) → IsKept {A = Store} (Unit {0}) names (script_of n i.body (opening i) Give)

fit_keeps : (N : Schema) (i : Node) → IsFit N i → KeepsKinds N i
fit_keeps N i fit = record {
  names = takings_of N i;
  takes = λ H g q. tapes_kept N H i.actuals i.variables g q;
  sends = λ q c j e w. sends_kept N i.actuals i.variables q c j e w;
  body = λ n. script_kept (Unit {0}) (takings_of N i) n i.body (opening i) Give fit.0 (λ y. opening_kept N i.actuals i.variables) (λ r j. tt);
}

instances_keep : (t : Program) → IsWellWired t → (p : ℕ) → KeepsKinds (network_of t) (instance_at (network_of t) p)
instances_keep t wired p = fit_keeps (network_of t) _ (fit_at (network_of t) (network_of t).instances p (instances_fit t wired))

-- ---- what is sent on a channel

value_by : (b : Bool) (k : Kind) (v : Value) (vs : List Value) → (b ≡ true → kind_of_value v ≡ k) → AreOfKind k vs → AreOfKind k (if b then v ∷ vs else vs)
value_by true k v vs h i = (h refl, i)
value_by false k v vs h i = i

sent_at : (N : Schema) (p c : ℕ) → KeepsKinds N (instance_at N p) → (x : Port × Value) → (w : List Taking) →
    ((q : ℕ) (j : Kind) → slice_get w q ≡ Some (T.Channel Out j) → is_written (actual_at (instance_at N p) q) c ≡ true → j ≡ kind_at N c) →
    IsSent w x → goes_to N p (Channel c) x.0 ≡ true → kind_of_value x.1 ≡ kind_at N c
sent_at N p c keeps (Parameter q, v) w f h i = f q (kind_of_value v) h i
sent_at N p c keeps (Printer, v) w f h i = cc

values_kept : (N : Schema) (p c : ℕ) (keeps : KeepsKinds N (instance_at N p)) (xs : List (Port × Value)) → AllByRecursion (IsSent keeps.names) xs →
    AreOfKind (kind_at N c) (values_at (goes_to N p (Channel c)) xs)
values_kept N p c keeps [] h = tt
values_kept N p c keeps (x ∷ xs) h =
    value_by (goes_to N p (Channel c) x.0) (kind_at N c) x.1 _
    (sent_at N p c keeps x keeps.names (λ q j e i. keeps.sends q c j e i) h.0) (values_kept N p c keeps xs h.1)

out_kept : (N : Schema) (n p : ℕ) (H : Histories) (c : ℕ) → KeepsKinds N (instance_at N p) → AreKinded N H → AreOfKind (kind_at N c) (out N n p H (Channel c))
out_kept N n p H c keeps g =
    values_kept N p c keeps (exec_at N n p H).sent
    (play_kept keeps.names n _ (tapes_of (instance_at N p) H) (keeps.body n) (keeps.takes H g))

-- ---- the iterates

-- what is given to a channel from outside has its kind
given_kept : (N : Schema) (lists : Lists) (c : ℕ) (r : Role) (src : Source) → source_by r src ≡ Given → role_at N c ≡ r → IsListFor N c (inputs_of lists c) →
    src ≢ Given → AreOfKind (kind_at N c) (inputs_of lists c)
given_kept N lists c Inner src e is h never = absurd (never e)
given_kept N lists c Input src e is h never = h.kinded is
given_kept N lists c Output src e is h never = absurd (never e)

never_given : (is : List Node) (p c : ℕ) → first_writer is p c ≢ Given
never_given [] p c e = cc
never_given (i ∷ is) p c e = by (any_written i.actuals c) (never_given is (suc p) c) e
  where
    by : (b : Bool) → first_writer is (suc p) c ≢ Given → (if b then Written p else first_writer is (suc p) c) ≡ Given → ⊥
    by true h f = cc
    by false h f = h f

fed_kept : (N : Schema) (lists : Lists) (f : ℕ → List Value) (c : ℕ) (src : Source) → (source N (Channel c) ≡ src) → IsInputFor N lists →
    ((p : ℕ) → AreOfKind (kind_at N c) (f p)) → AreOfKind (kind_at N c) (fed src (inputs_of lists) f (Channel c))
fed_kept N lists f c Given e h g =
    given_kept N lists c (role_at N c) (first_writer N.instances 0 c) e refl (h.lists_fit c) (never_given N.instances 0 c)
fed_kept N lists f c (Written p) e h g = g p
fed_kept N lists f c Nobody e h g = tt

iterates_kept : (N : Schema) (lists : Lists) → ((p : ℕ) → KeepsKinds N (instance_at N p)) → IsInputFor N lists → (n : ℕ) → AreKinded N (iterate N (inputs_of lists) n)
iterates_kept N lists keeps h zero c = fed_kept N lists _ c (source N (Channel c)) refl h (λ p. tt)
iterates_kept N lists keeps h (suc n) c =
    fed_kept N lists _ c (source N (Channel c)) refl h (λ p. out_kept N n p (iterate N (inputs_of lists) n) c (keeps p) (λ d. iterates_kept N lists keeps h n d))

-- every value of an iterate on a channel has the channel's kind
pub kinds : (t : Program) (lists : Lists) → IsWellWired t → IsInputFor (network_of t) lists → (n : ℕ) →
    AreKinded (network_of t) (iterate (network_of t) (inputs_of lists) n)
kinds t lists wired h n = iterates_kept (network_of t) lists (instances_keep t wired) h n
