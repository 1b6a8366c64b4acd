-- Inner. Texts that grow by the texts of items.
use Rattle.std.specs.Prelude.{◌≡◌, ℕ, Bool, true, false, ◌==◌, List, ◌∷◌, ◌++◌, Some, slice_get}
use Rattle.kahn_streams.specs.{declared.tree.Argument.Argument, declared.tree.Instance.Instance, declared.tree.Parameter.Parameter, declared.tree.Program.Program, Network.Schema}
use Rattle.kahn_chain.specs.{declared.reason.Standing.Standing, declared.reason.Standing.TheVariants.Waits, Chain.LeadsOn}
use Rattle.kahn_graph.specs.Graph.{tip_text, values_text}

-- behind the old text stands one of these
abbrev pub Adds : (List ℕ → Type 0) → List ℕ → List ℕ → Type 0
Adds P old new = (text : List ℕ) × P text × (new ≡ old ++ text)

-- an argument was added, and what is left comes after what separates it from the next
abbrev pub AddsValue : List ℕ → List ℕ → List ℕ → List ℕ → Parameter → Argument → Type 0
AddsValue old before new next q x =
    (qs : List Parameter) (rest : List Argument) → new ++ values_text next qs rest ≡ old ++ values_text before (q ∷ qs) (x ∷ rest)

-- the text tells where instance i stands in the program text
abbrev pub IsTip : Program → List ℕ → ℕ → List ℕ → Type 0
IsTip t source i text = (x : Instance) × (slice_get t.instances.items i ≡ Some x) × (text ≡ tip_text source x.process)

-- the answer tells whether instance p waits on channel c and is on a ring
abbrev pub IsWaitAt : Schema → List Standing → ℕ → ℕ → Bool → Type 0
IsWaitAt N ss c p true = (slice_get ss p ≡ Some (Waits c)) × LeadsOn N ss p p
IsWaitAt N ss c p false = slice_get ss p ≡ Some (Waits c) → LeadsOn N ss p p → ⊥

-- one that stands so waits on channel c
abbrev pub is_wait : ℕ → Standing → Bool
is_wait c (Waits d) = d == c
is_wait c s = false
