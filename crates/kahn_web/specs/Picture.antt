-- Believed. What the page is given as the picture of a network.
use Rattle.std.specs.Prelude.{ℕ, List, []}
use Rattle.kahn_streams.specs.declared.tree.Program.{Program}
use Rattle.kahn_graph.specs.Graph.{IsPicture}
use Rattle.kahn_fault.specs.Work.{IsChecked}

-- a picture of the network of the text
abbrev pub IsNetworkPicture : List ℕ → List ℕ → Type 0
IsNetworkPicture program picture = (t : Program) × IsChecked program t × IsPicture t program [] [] picture
