-- Inner. Where the values of a channel come from, and what the wire of a channel says.
use Rattle.std.specs.Prelude.{◌≡◌, ◌⊎◌, ◌<◌, ℕ, Some, length, slice_get, List}
use Rattle.kahn_streams.specs.{declared.tree.Role.TheVariants.Inner, declared.tree.Role.TheVariants.Input, declared.tree.Role.TheVariants.Output, declared.tree.Program.Program, declared.wires.Wire.Wire, Network.Schema, Network.Writes, Network.Given, Network.Written, Network.instance_at, Network.actual_at, Network.role_at, Network.kind_at, Network.channel_source, Network.channel_names, Network.network_of, Network.source_of, Network.IsOnly, Network.IsReader, Network.IsWriter}

-- an instance sends them
abbrev pub HasSender : Schema → ℕ → Type 0
HasSender N c = (w : ℕ) × (o : ℕ) × (channel_source N c ≡ Written w) × (actual_at (instance_at N w) o ≡ Writes c)

-- each output channel has one
abbrev pub OutputsHaveSenders : Schema → Type 0
OutputsHaveSenders N = (c : ℕ) → role_at N c ≡ Output → c < length N.channels → HasSender N c

-- this instance sends them, and the channel is no input
abbrev pub IsSentBy : Schema → ℕ → ℕ → Type 0
IsSentBy N p c = (channel_source N c ≡ Written p) × (role_at N c ≡ Input → ⊥)

-- they come from outside, on an input; or an instance sends them, on an inner channel
abbrev pub IsFed : Schema → ℕ → Type 0
IsFed N c =
    ((channel_source N c ≡ Given) × (role_at N c ≡ Input))
    ⊎ ((w : ℕ) × (o : ℕ) × (channel_source N c ≡ Written w) × (actual_at (instance_at N w) o ≡ Writes c) × (role_at N c ≡ Inner))

-- what a network says of the channel of a wire, and of its name
pub record IsWire (t : Program) (c : ℕ) (text : List ℕ) (w : Wire) : Type 0 where
  pub name : slice_get (channel_names t) c ≡ Some text
  pub kind : w.kind ≡ kind_at (network_of t) c
  pub role : w.role ≡ role_at (network_of t) c
  pub writer : IsOnly (IsWriter (network_of t) c) w.writer
  pub source : channel_source (network_of t) c ≡ source_of w.writer
  pub reader : IsOnly (IsReader (network_of t) c) w.reader
