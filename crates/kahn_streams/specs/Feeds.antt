-- Believed. Values that are appended to an input (this project's profile).
use Rattle.std.specs.Prelude.{◌≡◌, ℕ, ◌+◌, ◌<◌, ◌≤◌, ◌==◌, List, [], ◌∷◌, ◌++◌, length, if◌then◌else◌, MatchResult, Result}
use Rattle.kahn_streams.specs.{Types.Program, Types.Value, Types.FeedFault, declared.tree.Role.TheVariants.Input, Network.network_of, Network.kind_at, Network.role_at, Network.channel_names, declared.feeds.FeedFault.TheVariants.UnknownName, declared.feeds.FeedFault.TheVariants.NotAnInput, declared.feeds.FeedFault.TheVariants.WrongKind, declared.feeds.FeedFault.TheVariants.TooMany, declared.feeds.FeedFault.TheVariants.NoMemory, Inputs.AllHold, Inputs.Entry, Inputs.FailsFirst, Inputs.channel_of, Inputs.most_values, Inputs.AreOfKind, Inputs.Lists, Inputs.inputs_of}

-- what the entry has to be, in this order: its name that of an input channel, and its values of the channel's kind
abbrev pub asked_of_feed : Program → Entry → List (Type 0 × FeedFault)
asked_of_feed t entry = (channel_of t entry < length (channel_names t), UnknownName)
    ∷ (role_at (network_of t) (channel_of t entry) ≡ Input, NotAnInput)
    ∷ (AreOfKind (kind_at (network_of t) (channel_of t entry)) entry.1, WrongKind) ∷ []

-- the values are meant for an input channel
abbrev pub IsMeant : Program → Entry → Type 0
IsMeant t entry = AllHold (asked_of_feed t entry)

-- why they aren't
abbrev pub IsNotMeant : Program → Entry → FeedFault → Type 0
IsNotMeant t entry fault = FailsFirst (asked_of_feed t entry) fault

-- they are meant for the channel of this number
abbrev pub IsMeantFor : Program → Entry → ℕ → Type 0
IsMeantFor t entry c = (c ≡ channel_of t entry) × IsMeant t entry

-- how many values the entry's channel would have
abbrev pub total_after : Program → Lists → Entry → ℕ
total_after t lists entry = length (inputs_of lists (channel_of t entry)) + length entry.1

-- why values aren't fed: they aren't meant for an input channel, or else they are too many, or else memory was refused
abbrev pub IsUnwelcome : Program → Lists → Entry → FeedFault → Type 0
IsUnwelcome t lists entry TooMany = IsMeant t entry × (most_values < total_after t lists entry)
IsUnwelcome t lists entry NoMemory = IsMeant t entry × (total_after t lists entry ≤ most_values)
IsUnwelcome t lists entry fault = IsNotMeant t entry fault

-- what is fed to a channel
abbrev pub fed_to : Program → Entry → ℕ → List Value
fed_to t entry c = if channel_of t entry == c then entry.1 else []

-- the values are accepted, and come after those of their channel; all other lists are as before
pub record IsEntryFed (t : Program) (before : Lists) (entry : Entry) (after : Lists) : Type 0 where
  pub meant : IsMeant t entry
  pub within : total_after t before entry ≤ most_values
  pub count : length after ≡ length before
  pub lists : (c : ℕ) → inputs_of after c ≡ inputs_of before c ++ fed_to t entry c

-- the result of a call that feeds an entry: the values are fed, or why not, and then the lists are as before
abbrev pub LeavesFed : {X : Type 0} → Program → Entry → Lists → Lists → Result X FeedFault → Type 0
LeavesFed t entry old new r = MatchResult r (λ _. IsEntryFed t old entry new) (λ fault. (new ≡ old) × IsUnwelcome t old entry fault)
