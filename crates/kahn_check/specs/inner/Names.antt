-- Inner. Names that are looked up by their text.
use Rattle.std.specs.Prelude.{◌≡◌, ℕ, List, Option}
use Rattle.std.proofs.Common.{bytes_eq}
use Rattle.std.specs.Map.{lookup}

-- each name is found as it is listed
abbrev pub AreFound : {V : Type 0} → List (List ℕ × V) → (List ℕ → Option V) → Type 0
AreFound listed found = (x : List ℕ) → found x ≡ lookup (bytes_eq x) listed
