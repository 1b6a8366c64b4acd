-- Inner. The tables of the walk, as a network keeps them.
use Rattle.std.specs.Prelude.{◌≡◌, List, ◌∷◌, ◌++◌, map}
use Rattle.std.proofs.Common.{bytes_eq}
use Rattle.std.specs.Map.{lookup}
use Rattle.kahn_streams.specs.{declared.tree.Declaration.Declaration, declared.tree.Name.Name, declared.tree.Kind.Kind, declared.tree.Role.Role, View.bytes_of, declared.fault.CheckFault.CheckFault, Wires.Line, Wires.NamedWire, Wires.shown, Wiring.declared_channels}
use Rattle.kahn_check.specs.{Parts.firsts, inner.Tables.Ends, inner.Tables.sides_parts}

-- the channels of one declaration
abbrev pub as_lines : Kind → Role → List Name → List (Name × (Kind × Role))
as_lines kind role xs = map (λ n. (n, (kind, role))) xs

-- the same by the tables of the walk
abbrev pub line_in : Ends → Ends → Name × (Kind × Role) → Line
line_in w r c = ((bytes_of c.0, c.1), (lookup (bytes_eq (bytes_of c.0)) w, lookup (bytes_eq (bytes_of c.0)) r))

abbrev pub lines_in : Ends → Ends → List (Name × (Kind × Role)) → List Line
lines_in w r cs = map (line_in w r) cs

-- the wires and the faults of sides come out with what follows as those with 0 do with one declaration more
pub record HasWired (w r : Ends) (d : Declaration) (ws : List NamedWire) (fs : List CheckFault) (ws0 : List NamedWire) (fs0 : List CheckFault) : Type 0 where
  pub lines : (rest : List Declaration) → map shown ws ++ lines_in w r (declared_channels rest) ≡ map shown ws0 ++ lines_in w r (declared_channels (d ∷ rest))
  pub sides : (rest : List Declaration) → fs ++ firsts (sides_parts w r (declared_channels rest)) ≡ fs0 ++ firsts (sides_parts w r (declared_channels (d ∷ rest)))
