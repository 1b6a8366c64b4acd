-- Believed. What a value needs: the least cut of a network in which it stands. A cut says how many values of each input
-- there are, and how many events each instance does.
use Rattle.std.specs.Prelude.{◌≡◌, ℕ, zero, suc, ◌≤◌, [], take, slice_get, Some}
use Rattle.kahn_streams.specs.{declared.value.Value.Value, declared.value.Line.Line, Network.Schema, Solution.Histories, Solution.Inputs, Solution.out, Solution.source, Solution.fed}

pub record Cut : Type 0 where
  -- of input channel c the first `values c` values are there
  pub values : ℕ → ℕ
  -- instance p does at most `events p` events
  pub events : ℕ → ℕ

-- the first values of each input
abbrev pub first_values : (ℕ → ℕ) → Inputs → Inputs
first_values m I c = take (m c) (I c)

-- the iterates, where each instance does at most its events
abbrev pub held_in : Schema → Inputs → Cut → ℕ → Histories
held_in N I x zero c = fed (source N c) (first_values x.values I) (λ p. []) c
held_in N I x (suc n) c = fed (source N c) (first_values x.values I) (λ p. out N (x.events p) p (held_in N I x n) c) c

-- with that cut v stands at place k of line c
abbrev pub Suffices : Schema → Inputs → Line → ℕ → Value → Cut → Type 0
Suffices N I c k v x = (n : ℕ) × (slice_get (held_in N I x n c) k ≡ Some v)

-- no count of x is larger than that of y
abbrev pub IsCutWithin : Cut → Cut → Type 0
IsCutWithin x y = ((c : ℕ) → x.values c ≤ y.values c) × ((p : ℕ) → x.events p ≤ y.events p)

-- x is the least cut in which v stands at place k of line c
pub record AreNeeds (N : Schema) (I : Inputs) (c : Line) (k : ℕ) (v : Value) (x : Cut) : Type 0 where
  pub enough : Suffices N I c k v x
  pub least : (y : Cut) → Suffices N I c k v y → IsCutWithin x y
