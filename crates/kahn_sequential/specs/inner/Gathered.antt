-- Inner. Cells at rest, and the answer that is put together from them.
use Rattle.std.specs.Prelude.{◌≡◌, ◌⊎◌, ℕ, ◌<◌, ◌≤◌, List, [], length, Option, Some, slice_index_or, true}
use Rattle.kahn_sequential.specs.inner.Below.{AreKeptTokens, Channel, Cut, Dry, Ended, Faulted, Given, Inputs, Line, More, Schema, Nobody, Outcome, Print, Reads, Source, Store, Token, View, Waits, Writes, Written, actual_at, ending, instance_at, is_streamed, source}
use Rattle.kahn_streams.specs.Script as script
use Rattle.kahn_streams.specs.Solution as net

abbrev pub no_view : View
no_view = record { events = 0; taken = λ q. 0; sent = λ q. 0; kept = λ q. []; printed = [] }

abbrev pub view_at : List View → ℕ → View
view_at cells p = slice_index_or cells p no_view

-- so many values were given to channel c, by its writer or by the input
abbrev pub IsGiven : Schema → Inputs → List View → ℕ → Source → ℕ → Type 0
IsGiven N I cells c Given n = length (I c) ≡ n
IsGiven N I cells c (Written w) n = (o : ℕ) × (actual_at (instance_at N w) o ≡ Writes c) × ((view_at cells w).sent o ≡ n)
IsGiven N I cells c Nobody n = ⊥

-- no reader took more than was given
abbrev pub TookNoMore : Schema → Inputs → List View → Type 0
TookNoMore N I cells =
    (p q c : ℕ) → actual_at (instance_at N p) q ≡ Reads c → (n : ℕ) × IsGiven N I cells c (source N (Channel c)) n × ((view_at cells p).taken q ≤ n)

-- instance p reads c, of which it took all
abbrev pub TookAll : Schema → Inputs → List View → ℕ → ℕ → ℕ → Type 0
TookAll N I cells p q c = IsGiven N I cells c (source N (Channel c)) ((view_at cells p).taken q)

-- instance p is dry on a channel of which it did not take all
abbrev pub HasUntaken : Schema → Inputs → List View → ℕ → script.ScriptOutcome Store → Type 0
HasUntaken N I cells p o =
    (q c n : ℕ) × (actual_at (instance_at N p) q ≡ Reads c) × (o ≡ Dry q) × IsGiven N I cells c (source N (Channel c)) n × ((view_at cells p).taken q < n)

-- the rule of outcomes: what stands in the answer for a cell that is so
abbrev pub IsOutcomeOf : Schema → Inputs → List View → ℕ → script.ScriptOutcome Store → Outcome → Type 0
IsOutcomeOf N I cells p o Ended = ending o ≡ Some net.Ended
IsOutcomeOf N I cells p o (Faulted k) = ending o ≡ Some (net.Faulted k)
IsOutcomeOf N I cells p o (Waits c) = (q : ℕ) × (actual_at (instance_at N p) q ≡ Reads c) × (o ≡ Dry q) × TookAll N I cells p q c
IsOutcomeOf N I cells p o More = (o ≡ Cut) ⊎ HasUntaken N I cells p o

-- these tokens are the stream of line c: what its writer kept, or the input's list
abbrev pub IsFrom : Schema → Inputs → Option ℕ → List View → Source → Line → List Token → Type 0
IsFrom N I watch cells Given (Channel c) ts = AreKeptTokens N I (Channel c) (I c) ts
IsFrom N I watch cells (Written p) (Channel c) ts =
    (q : ℕ) × (actual_at (instance_at N p) q ≡ Writes c) × (is_streamed N watch c ≡ true) × (ts ≡ (view_at cells p).kept q)
IsFrom N I watch cells (Written p) (Print r) ts = ts ≡ (view_at cells p).printed
IsFrom N I watch cells s c ts = ⊥
