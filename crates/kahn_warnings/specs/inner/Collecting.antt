-- Inner. Names that a walk over a body collects.
use Rattle.std.specs.Prelude.{◌≡◌, ◌||◌, Bool, ℕ, List, is_some}
use Rattle.std.proofs.Common.{bytes_eq}
use Rattle.std.specs.Map.{lookup}

-- a name is among these, which stand for nothing
abbrev pub contains : List (List ℕ × Unit {0}) → List ℕ → Bool
contains names x = is_some (lookup (bytes_eq x) names)

-- they are those that were there and the names that pass a test
abbrev pub HasGot : (List ℕ → Bool) → List (List ℕ × Unit {0}) → List (List ℕ × Unit {0}) → Type 0
HasGot test old new = (x : List ℕ) → contains new x ≡ contains old x || test x

-- they are the names that pass a test
abbrev pub Are : (List ℕ → Bool) → List (List ℕ × Unit {0}) → Type 0
Are test names = (x : List ℕ) → contains names x ≡ test x
