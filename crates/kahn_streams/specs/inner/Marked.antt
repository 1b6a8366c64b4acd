-- Inner. An entry after others, which are known by marks: a list that has true at the number of each channel that they name.
use Rattle.std.specs.Prelude.{◌≡◌, ℕ, Bool, false, List, slice_index_or}
use Rattle.kahn_streams.specs.{Types.Program, Types.InputFault, Inputs.AllHold, Inputs.Entry, Inputs.FailsFirst, Inputs.asked_of_entry, Inputs.channel_of}

-- whether the channel of the entry is marked
abbrev pub is_marked : Program → List Bool → Entry → Bool
is_marked t marks entry = slice_index_or marks (channel_of t entry) false

-- nothing is wrong with an entry; `given` says whether one before it names the same channel
abbrev pub IsFitHere : Program → Bool → Entry → Type 0
IsFitHere t given entry = AllHold (asked_of_entry t given 0 entry)

-- that is so, and its channel has this number
abbrev pub IsTakenAt : Program → List Bool → Entry → ℕ → Type 0
IsTakenAt t marks entry c = (c ≡ channel_of t entry) × IsFitHere t (is_marked t marks entry) entry

-- entry n, counted from 1, is refused for this
abbrev pub IsRefusedAt : Program → List Bool → Entry → ℕ → InputFault → Type 0
IsRefusedAt t marks entry n fault = FailsFirst (asked_of_entry t (is_marked t marks entry) n entry) fault
