-- Inner. The streams of an answer, and the lists from which they are filled.
use Rattle.std.specs.Prelude.{◌≡◌, ℕ, ◌<◌, List, [], length, map, Option, Some, slice_get, slice_index_or}
use Rattle.kahn_sequential.specs.inner.Below.{AreKeptTokens, Channel, Given, Input, Inputs, IsOwn, IsPrefix, Kept, Line, Schema, Nobody, Print, Source, Stream, Token, Value, Writes, Written, actual_at, instance_at, role_at, source, stream_line, stream_lines, token_value}

-- each item of the first list became so that of the second at its place
pub record HaveChanged {X Y : Type 0} (R : X → Y → Type 0) (old : List X) (new : List Y) : Type 0 where
  pub count : length new ≡ length old
  pub each : (p : ℕ) (x : X) (y : Y) → slice_get old p ≡ Some x → slice_get new p ≡ Some y → R x y

-- the lines of the streams, for some watched channel
abbrev pub AreNamed : Schema → List Stream → Type 0
AreNamed N streams = (watch : Option ℕ) × (map stream_line streams ≡ stream_lines N watch)

-- the network has that channel, or that instance
abbrev pub IsDeclared : Schema → Line → Type 0
IsDeclared N (Channel c) = c < length N.channels
IsDeclared N (Print p) = p < length N.instances

-- ---- what the cells kept

-- by the number of the parameter, the tokens that a cell kept
abbrev pub kept_lists : {A : Type 0} → Kept A → List (List Token)
kept_lists l = map (λ v. v.items) l.kept.items

abbrev pub printed_list : {A : Type 0} → Kept A → List Token
printed_list l = l.printed.items

-- what instance p kept on parameter q
abbrev pub kept_in : {A : Type 0} → List (Kept A) → ℕ → ℕ → List Token
kept_in ls p q = slice_index_or (slice_index_or (map kept_lists ls) p []) q []

-- what instance p printed
abbrev pub printed_in : {A : Type 0} → List (Kept A) → ℕ → List Token
printed_in ls p = slice_index_or (map printed_list ls) p []

-- lists for each instance, one for each of its parameters
pub record AreLists {A : Type 0} (N : Schema) (ls : List (Kept A)) : Type 0 where
  pub count : length ls ≡ length N.instances
  pub parameters : (p : ℕ) (l : Kept A) → slice_get ls p ≡ Some l → length l.kept.items ≡ length (instance_at N p).actuals

-- ---- streams that are filled from the lists

-- a line of this source with these tokens before has those after: what its writer kept; a list of the input stays
abbrev pub IsFilled : {A : Type 0} → Schema → List (Kept A) → Source → Line → List Token → List Token → Type 0
IsFilled N ls Given c before after = after ≡ before
IsFilled N ls (Written p) (Channel c) before after = (q : ℕ) × (actual_at (instance_at N p) q ≡ Writes c) × (after ≡ kept_in ls p q)
IsFilled N ls (Written p) (Print r) before after = after ≡ printed_in ls p
IsFilled N ls Nobody c before after = ⊥

-- the line of a stream stays, and its tokens become those
abbrev pub IsFilledStream : {A : Type 0} → Schema → List (Kept A) → Stream → Stream → Type 0
IsFilledStream N ls x y = (y.line ≡ x.line) × IsFilled N ls (source N y.line) y.line x.tokens.items y.tokens.items

-- the lists of every other line are as before
abbrev pub KeepsOtherLines : {A : Type 0} → Schema → Line → List (Kept A) → List (Kept A) → Type 0
KeepsOtherLines N c old new =
    (d : Line) → (d ≡ c → ⊥) → (before after : List Token) → IsFilled N new (source N d) d before after → IsFilled N old (source N d) d before after

-- ---- streams that are given the lists of the input

-- these tokens begin the list of channel c
pub record IsBegun (N : Schema) (I : Inputs) (c : ℕ) (vs : List Value) (ts : List Token) : Type 0 where
  pub values : IsPrefix (map token_value ts) vs
  pub places : (k : ℕ) (t : Token) → slice_get ts k ≡ Some t → (t.line ≡ Channel c) × (t.place ≡ k)
  pub own : (k : ℕ) (t : Token) → slice_get ts k ≡ Some t → IsOwn N I t

-- where an input channel is watched these tokens are its list
abbrev pub AreAllGiven : Schema → Inputs → Option ℕ → List Token → Type 0
AreAllGiven N I watch ts = (c : ℕ) → watch ≡ Some c → role_at N c ≡ Input → map token_value ts ≡ I c

-- a line of this source opens with these tokens: an input channel with its whole list, every other with none
abbrev pub OpensWith : Schema → Inputs → Source → Line → List Token → Type 0
OpensWith N I Given (Channel c) ts = AreKeptTokens N I (Channel c) (I c) ts
OpensWith N I s c ts = ts ≡ []

abbrev pub IsOpenStream : Schema → Inputs → Stream → Type 0
IsOpenStream N I x = OpensWith N I (source N x.line) x.line x.tokens.items
