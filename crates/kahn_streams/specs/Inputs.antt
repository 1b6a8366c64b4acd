-- Believed. The input of a run: a list of values for each channel, the kinds of these, and the entries from which an input is made:
-- names of channels, each with the values that it is fed. Which entries are refused, and which list a channel gets, are this
-- project's profile.
use Rattle.std.specs.Prelude.{ℕ, List, [], slice_index_or, ◌≡◌, ◌≢◌, length, ◌⊎◌, ◌+◌, ◌<◌, ◌≤◌, ◌==◌, Bool, true, false, ◌∷◌, take, Some, slice_get, string_bytes, if◌then◌else◌}
use Rattle.kahn_streams.specs.{Types.Program, Types.Value, Types.Line, Types.Kind, Types.InputFault, Network.network_of, Network.Schema, Network.kind_at, Network.role_at, Network.channel_names, Solution.Inputs, Solution.Stands, declared.tree.Role.TheVariants.Input, declared.value.Value.TheVariants.Integer, declared.value.Value.TheVariants.Logical, View.place_of, declared.entries.InputFault.TheVariants.UnknownName, declared.entries.InputFault.TheVariants.NotAnInput, declared.entries.InputFault.TheVariants.GivenTwice, declared.entries.InputFault.TheVariants.WrongKind, declared.entries.InputFault.TheVariants.TooMany, declared.entries.InputFault.TheVariants.NoMemory}
use Rattle.std.specs.{List.AllByRecursion, declared.string.String.String, declared.vec.Vec.Vec, declared.alloc.Global.Global}
use Rattle.kahn_streams.specs.declared.tree.Kind.TheVariants as KindOf

-- the lists of an input, one for each channel in order of declaration
abbrev pub Lists : Type 0
Lists = List (List Value)

abbrev pub inputs_of : Lists → Inputs
inputs_of lists c = slice_index_or lists c []

-- an integer is of the kind of integers, a truth value of the logical kind
abbrev pub kind_of_value : Value → Kind
kind_of_value (Integer z) = KindOf.Integer
kind_of_value (Logical b) = KindOf.Logical

-- each value of the list has this kind
abbrev pub AreOfKind : Kind → List Value → Type 0
AreOfKind k vs = AllByRecursion (λ v. kind_of_value v ≡ k) vs

-- what an input may have for channel c: an input channel has values of its kind, any other channel has none
pub record IsListFor (N : Schema) (c : ℕ) (vs : List Value) : Type 0 where
  pub kinded : role_at N c ≡ Input → AreOfKind (kind_at N c) vs
  pub bare : role_at N c ≢ Input → vs ≡ []

-- the lists are those of an input for channels of these roles and kinds
pub record IsInputFor (N : Schema) (lists : Lists) : Type 0 where
  pub count : length lists ≡ length N.channels
  pub lists_fit : (c : ℕ) → IsListFor N c (inputs_of lists c)

-- the most values of one channel
abbrev pub most_values : ℕ
most_values = 1048576

-- no list has more
abbrev pub AreFew : Lists → Type 0
AreFew lists = (c : ℕ) → length (inputs_of lists c) ≤ most_values

-- a name, and the values for the channel of that name
abbrev pub Entry : Type 0
Entry = List ℕ × List Value

-- an entry as the code holds it
abbrev pub entry_of : (String Global × Vec Value Global) → Entry
entry_of entry = (string_bytes entry.0, entry.1.items)

-- no channel has the name
abbrev pub IsNoName : Program → List ℕ → Type 0
IsNoName t name = length (channel_names t) ≤ place_of (channel_names t) name

-- the channel of this number has it
abbrev pub IsNameOf : Program → List ℕ → ℕ → Type 0
IsNameOf t name c = (c ≡ place_of (channel_names t) name) × (c < length (channel_names t))

-- the number of the channel that an entry names, past the last if no channel has the name
abbrev pub channel_of : Program → Entry → ℕ
channel_of t entry = place_of (channel_names t) entry.0

-- whether one of the entries names the channel
abbrev pub is_given : Program → List Entry → ℕ → Bool
is_given t [] c = false
is_given t (entry ∷ entries) c = if channel_of t entry == c then true else is_given t entries c

-- the list of a channel: the values of the entry that names it, and none if no entry does
abbrev pub list_for : Program → List Entry → ℕ → List Value
list_for t [] c = []
list_for t (entry ∷ entries) c = if channel_of t entry == c then entry.1 else list_for t entries c

-- all of these hold; beside each is the fault if it doesn't
abbrev pub AllHold : {F : Type 0} → List (Type 0 × F) → Type 0
AllHold [] = Unit {0}
AllHold ((holds, told) ∷ rest) = holds × AllHold rest

-- this is the fault beside the first of them that doesn't hold
abbrev pub FailsFirst : {F : Type 0} → List (Type 0 × F) → F → Type 0
FailsFirst [] fault = ⊥
FailsFirst ((holds, told) ∷ rest) fault = (¬ holds × (fault ≡ told)) ⊎ (holds × FailsFirst rest fault)

-- what entry n, counted from 1, has to be, in this order; `given` says whether one before it names the same channel
abbrev pub asked_of_entry : Program → Bool → ℕ → Entry → List (Type 0 × InputFault)
asked_of_entry t given n entry = (channel_of t entry < length (channel_names t), UnknownName n)
    ∷ (role_at (network_of t) (channel_of t entry) ≡ Input, NotAnInput n)
    ∷ (given ≡ false, GivenTwice n)
    ∷ (AreOfKind (kind_at (network_of t) (channel_of t entry)) entry.1, WrongKind n)
    ∷ (length entry.1 ≤ most_values, TooMany n) ∷ []

-- what the one at place k of the entries has to be
abbrev pub asked_at : Program → List Entry → ℕ → Entry → List (Type 0 × InputFault)
asked_at t entries k entry = asked_of_entry t (is_given t (take k entries) (channel_of t entry)) (k + 1) entry

-- nothing is wrong with any of the entries
abbrev pub AreFit : Program → List Entry → Type 0
AreFit t entries = (k : ℕ) (entry : Entry) → slice_get entries k ≡ Some entry → AllHold (asked_at t entries k entry)

-- the first of the entries with which something is wrong, and what it is
abbrev pub IsFirstRefused : Program → List Entry → InputFault → Type 0
IsFirstRefused t entries fault =
    (k : ℕ) × (entry : Entry) × (slice_get entries k ≡ Some entry) × AreFit t (take k entries) × FailsFirst (asked_at t entries k entry) fault

-- why no input is made of the entries: memory was refused, or something is wrong with one of them
abbrev pub IsNotMade : Program → List Entry → InputFault → Type 0
IsNotMade t entries fault = (fault ≡ NoMemory) ⊎ IsFirstRefused t entries fault

-- nothing is wrong with the entries, and these are the lists that they give the channels
pub record IsInputOf (t : Program) (entries : List Entry) (input : Lists) : Type 0 where
  pub fit : AreFit t entries
  pub count : length input ≡ length (network_of t).channels
  pub lists : (c : ℕ) → inputs_of input c ≡ list_for t entries c

-- ---- what a token keeps

-- the value stands at the place of the line, in the solution of this program's network for this input
abbrev pub Holds : Program → Lists → Line → ℕ → Value → Type 0
Holds program lists line place v = ∥ (Stands (network_of program) (inputs_of lists) line place v) ∥₁

-- what a token is of
pub record Names : Type 0 where
  pub network : Program
  pub input : Lists
