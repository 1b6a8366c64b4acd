-- Believed. What contracts say of tokens and of lists of them. A token is a value with its place on its line (this project's profile);
-- that its value stands there in the least solution is what its type keeps.
use Rattle.std.specs.Prelude.{ℕ, List, [], ◌≡◌, suc, ◌∷◌, Some, slice_get}
use Rattle.kahn_streams.specs.{Types.Program, Types.Value, Types.Line, Network.network_of, Network.Schema, Solution.Inputs, Solution.AreInputsExtended, declared.token.Token.Token, Inputs.Lists, Inputs.inputs_of}

-- the value alone
abbrev pub token_value : Token → Value
token_value t = t.value

-- the token is of this network, and of an input whose lists begin those of this one
abbrev pub IsOwn : Schema → Inputs → Token → Type 0
IsOwn N I t = (network_of t.network.value ≡ N) × AreInputsExtended (inputs_of t.input.value) I

-- the token is of this network and this input
abbrev pub IsOf : Program → Lists → Token → Type 0
IsOf network input t = (t.network.value ≡ network) × (t.input.value ≡ input)

-- the token at this place of the list is of the line and of this place
abbrev pub IsTokenAt : Line → ℕ → List Token → Type 0
IsTokenAt line place ts = (t : Token) × (slice_get ts place ≡ Some t) × (t.line ≡ line) × (t.place ≡ place)

-- these are tokens of the line, at the places from this one on
abbrev pub Follow : Line → ℕ → List Token → Type 0
Follow line from [] = Unit {0}
Follow line from (t ∷ ts) = (t.line ≡ line) × (t.place ≡ from) × Follow line (suc from) ts

-- a list of tokens; for how many more it has room, and how many integers can be put there without a look
pub record TokenList : Type 0 where
  pub items : List Token
  pub spare : ℕ
  pub ready : ℕ
