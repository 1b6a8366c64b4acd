-- Inner. The passes of a deque of which one pass may push and one may take.
use Rattle.std.specs.Prelude.{◌≡◌, ℕ, Bool, true, List}
use mathlib.Core.Option.{some}
use lib.ListN.{get_elem?}

module _ {V : Type 0} (Is : V → Type 0) (pushes takes : V → Bool) (W R : V → Type 0) (writer reader : ℕ) where
  -- `Is` holds of each pass; only the writer may push, of which W holds, and only the reader may take, of which R holds
  abbrev pub HasRights : ℕ → V → Type 0
  HasRights port v = Is v × (pushes v ≡ true → (port ≡ writer) × W v) × (takes v ≡ true → (port ≡ reader) × R v)

  abbrev pub HaveRights : List V → Type 0
  HaveRights views = (port : ℕ) (v : V) → get_elem? views port ≡ some v → HasRights port v
