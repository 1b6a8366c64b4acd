-- Inner. Names that are looked up in a table of their numbers.
use Rattle.std.specs.Prelude.{◌≡◌, ℕ, Bool, true, false, List, Option, None, Some, length}
use Rattle.kahn_streams.specs.View.{Scope, place_of}

-- the number that a table has for a name, n if it has none
abbrev pub number_in : ℕ → Option ℕ → ℕ
number_in n None = n
number_in n (Some k) = k

-- the table has the number of each name
abbrev pub AreNumbers : Scope → (List ℕ → Option ℕ) → Type 0
AreNumbers names find = (x : List ℕ) → number_in (length names) (find x) ≡ place_of names x

-- a name that has no number yet gets n
abbrev pub noted : Bool → ℕ → Option ℕ → Option ℕ
noted b n (Some k) = Some k
noted true n None = Some n
noted false n None = None
