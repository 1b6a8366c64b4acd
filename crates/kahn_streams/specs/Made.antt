-- Believed. What the instances of a program are made of.
use Rattle.std.specs.Prelude.{◌≡◌, ℕ, List, Some, slice_get}
use Rattle.kahn_streams.specs.{Types.Process, Types.Argument, Types.Instance, Types.Program, View.bytes_of, Network.process_of}

-- instance p of the program names that process, which the program declares, and has these arguments
abbrev pub IsMadeOf : Program → ℕ → Process → List Argument → Type 0
IsMadeOf t p process arguments =
    (i : Instance) × (slice_get t.instances.items p ≡ Some i) × (process_of t.declarations.items (bytes_of i.process) ≡ Some process) × (i.arguments.items ≡ arguments)
