-- Inner. How lists store tokens.
use Rattle.std.specs.Prelude.{◌≡◌, ℕ, ℤ, ◌-◌, ◌<◌, ◌≤◌, List, ◌++◌, map, min, vec_capacity, vec_len}
use Rattle.std.specs.declared.vec.Vec.{Vec}
use Rattle.kahn_streams.specs.{Types.Value, declared.token.Token.Token, declared.value.Value.TheVariants.Integer, Tokens.token_value}

-- first integers, and then what is stored as any value
abbrev pub values_in : List ℤ → List Value → List Value
values_in numbers rest = map Integer numbers ++ rest

-- these are stored of the tokens
abbrev pub AreStored : List Token → List ℤ → List Value → Type 0
AreStored tokens numbers rest = map token_value tokens ≡ values_in numbers rest

-- for how many items more each of two lists has room
abbrev pub least_room : {X Y A : Type 0} → Vec X A → Vec Y A → ℕ
least_room v w = min (vec_capacity v - vec_len v) (vec_capacity w - vec_len w)

-- below this number of integers both have room, and there is no rest
abbrev pub IsLimit : {X Y A : Type 0} → ℕ → Vec X A → Vec Y A → Type 0
IsLimit limit numbers rest = (limit ≤ vec_capacity numbers) × (vec_len numbers < limit → (vec_len rest ≡ 0) × (0 < vec_capacity rest))
