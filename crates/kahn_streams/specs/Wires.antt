-- Believed. The tables of a network, as its program has them.
use Rattle.std.specs.Prelude.{◌≡◌, ℕ, List, [], ◌∷◌, map, Option, None, Some, slice_get, string_bytes}
use Rattle.kahn_streams.specs.{Types.Name, Types.Kind, Types.Role, Types.Process, Types.Declaration, Types.Program, Types.Side, View.bytes_of, Network.process_of, Wiring.declared_channels, Wiring.writers, Wiring.readers, Wiring.IsWellWired, declared.wires.Wire.Wire}
use Rattle.std.specs.{declared.string.String.String, declared.alloc.Global.Global}
use Rattle.kahn_streams.specs.declared.tree.Declaration.TheVariants as D

-- a channel's name, kind and role, its writer and its reader
abbrev pub Line : Type 0
Line = (List ℕ × (Kind × Role)) × (Option Side × Option Side)

-- a channel's name with its wire, as a network keeps them
abbrev pub NamedWire : Type 0
NamedWire = String Global × Wire

abbrev pub shown : NamedWire → Line
shown w = ((string_bytes w.0, (w.1.kind, w.1.role)), (w.1.writer, w.1.reader))

abbrev pub first : List Side → Option Side
first [] = None
first (e ∷ es) = Some e

abbrev pub channel_line : Program → Name × (Kind × Role) → Line
channel_line t c = ((bytes_of c.0, c.1), (first (writers t (bytes_of c.0)), first (readers t (bytes_of c.0))))

-- each declared channel with its first writer and its first reader
abbrev pub lines_of : Program → List Line
lines_of t = map (channel_line t) (declared_channels t.declarations.items)

abbrev pub the_process : Option Declaration → Option Process
the_process None = None
the_process (Some (D.Channels kind role names)) = None
the_process (Some (D.Process p)) = Some p

-- the process that is declared there
abbrev pub process_at : List Declaration → ℕ → Option Process
process_at ds k = the_process (slice_get ds k)

-- what a network keeps beside its program
pub record IsKept (t : Program) (wires : List NamedWire) (processes : List ℕ) : Type 0 where
  pub wired : IsWellWired t
  pub lines : map shown wires ≡ lines_of t
  pub numbers : map (process_at t.declarations.items) processes ≡ map (λ i. process_of t.declarations.items (bytes_of i.process)) t.instances.items
