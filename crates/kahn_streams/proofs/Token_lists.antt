-- Lists of tokens.
use Rattle.kahn_streams.proofs.Common.{◌≡◌, ℕ, zero, suc, ◌+◌, List, ◌∷◌, ◌++◌, length, map, slice_get, Some, None, ap, refl, ◌∙◌, arith, add-zero, ∥∥₁_prop, is_prop→PathP, Line, Program, Token, Lists, Holds, []}
use Rattle.kahn_streams.specs.{Inputs.Names, Tokens.IsOf, Tokens.Follow, Tokens.token_value}
use Rattle.std.proofs.lemmas.Option.{none-some, same_Some}
use denote.RawPtr.{null_ptr}

pub follow_push : (line : Line) (from : ℕ) (ts : List Token) (t : Token) → Follow line from ts → t.line ≡ line → t.place ≡ from + length ts → Follow line from (ts ++ t ∷ [])
follow_push line from [] t f l p = (l, p ∙ add-zero from, tt)
follow_push line from (u ∷ ts) t f l p = (f.0, f.1, follow_push line (suc from) ts t f.2 l (omega (arith, p)))

-- what a token's type keeps, for the network and the input that it is of
pub token_stands : (net : Program) (inp : Lists) (line : Line) (place : ℕ) (t : Token) → IsOf net inp t → t.line ≡ line → t.place ≡ place → Holds net inp line place t.value
token_stands net inp line place t o l p = rw (← o.0, ← o.1, ← l, ← p) t.stands

-- a token is its line, place, value and names
pub token_same : (s t : Token) → s.line ≡ t.line → s.place ≡ t.place → s.value ≡ t.value → s.network.value ≡ t.network.value → s.input.value ≡ t.input.value → s ≡ t
token_same s t l p v n i =
    λ j. record {
      line = l j;
      place = p j;
      value = v j;
      network = record { marker = record {}; value = n j };
      input = record { marker = record {}; value = i j };
      stands = is_prop→PathP (λ k. Holds (n k) (i k) (l k) (p k) (v k)) (λ k. ∥∥₁_prop) s.stands t.stands j;
    }

-- no names: those of the empty program
abbrev no_names : Names
no_names = record {
  network = record {
    declarations = record { ptr = null_ptr; len = 0; cap = 0; alloc = record { memory = record { seal = tt } }; items = []; ok = (refl, omega arith); small = omega arith };
    instances = record { ptr = null_ptr; len = 0; cap = 0; alloc = record { memory = record { seal = tt } }; items = []; ok = (refl, omega arith); small = omega arith };
  };
  input = [];
}

abbrev pub names_of : Token → Names
names_of t = record { network = t.network.value; input = t.input.value }

-- those of the token at a place
abbrev pub names_at : List Token → ℕ → Names
names_at [] k = no_names
names_at (t ∷ ts) zero = names_of t
names_at (t ∷ ts) (suc k) = names_at ts k

pub found_at : (ts : List Token) (k : ℕ) (t : Token) → slice_get ts k ≡ Some t → (names_at ts k ≡ names_of t) × (slice_get (map token_value ts) k ≡ Some t.value)
found_at [] k t e = absurd (none-some t e)
found_at (u ∷ ts) zero t e = let is : u ≡ t = same_Some u t e in (ap names_of is, ap (λ (x : Token). Some x.value) is)
found_at (u ∷ ts) (suc k) t e = found_at ts k t e
