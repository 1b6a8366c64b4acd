-- Believed. What is wrong with each part of a program: each declared name, each body, each instance, each channel.
use Rattle.std.specs.Prelude.{ℕ, zero, suc, ◌+◌, ◌-◌, List, [], ◌∷◌, ◌++◌, map}
use Rattle.std.proofs.Common.{bytes_eq}
use Rattle.std.specs.Map.{lookup}
use Rattle.kahn_streams.specs.{declared.span.Span.Span, declared.tree.Name.Name, declared.tree.Instance.Instance, declared.tree.Program.Program, View.bytes_of, Wiring.Global, Wiring.IsChannel, Wiring.IsProcess, Wiring.declared_channels, Wiring.declared_of, Wiring.global, Wiring.Handover, Wiring.handed_by, declared.fault.CheckFault.CheckFault, declared.fault.CheckFault.TheVariants.TooMany, Faults.most_channels, Faults.most_instances, Faults.too_many, Faults.repeated, Faults.process_faults, Faults.made_faults, Faults.side_faults}

-- ---- the faults of each part, in the order of the walk

-- a channel, where so many more may be declared
abbrev pub no_room : ℕ → Span → List CheckFault
no_room zero at = TooMany at ∷ []
no_room (suc room) at = []

-- each declared name is a part, and so is the body of a process; so many channels more may be declared
abbrev pub name_parts : List (List ℕ × Global) → ℕ → List (Name × Global) → List (List CheckFault)
name_parts known room [] = []
name_parts known room ((x, IsChannel kind role) ∷ rest) =
    (no_room room x.span ++ repeated (lookup (bytes_eq (bytes_of x)) known) x.span) ∷ name_parts (known ++ (bytes_of x, IsChannel kind role) ∷ []) (room - 1) rest
name_parts known room ((x, IsProcess p) ∷ rest) =
    repeated (lookup (bytes_eq (bytes_of x)) known) x.span ∷ process_faults p ∷ name_parts (known ++ (bytes_of x, IsProcess p) ∷ []) room rest

-- the instances from the ith on
abbrev pub instance_parts : Program → List Handover → ℕ → List Instance → List (List CheckFault)
instance_parts t before i [] = []
instance_parts t before i (x ∷ xs) =
    (too_many most_instances i x.process.span ++ made_faults t before i (global t x.process) x) ∷ instance_parts t (before ++ handed_by t i x) (suc i) xs

abbrev pub parts : Program → List (List CheckFault)
parts t = name_parts [] most_channels (declared_of t.declarations.items) ++ instance_parts t [] 0 t.instances.items

-- each declared channel, whose missing side may be that of an instance which is wrong
abbrev pub side_parts : Program → List (List CheckFault)
side_parts t = map (λ c. side_faults t c.0 c.1.1) (declared_channels t.declarations.items)

-- ---- what is reported

-- the parts, put together
abbrev pub together : List (List CheckFault) → List CheckFault
together [] = []
together (p ∷ ps) = p ++ together ps

abbrev pub first_alone : List CheckFault → List CheckFault
first_alone [] = []
first_alone (f ∷ fs) = f ∷ []

-- the first fault of each part that has one
abbrev pub firsts : List (List CheckFault) → List CheckFault
firsts [] = []
firsts (p ∷ ps) = first_alone p ++ firsts ps

abbrev pub unless_empty : List CheckFault → List CheckFault → List CheckFault
unless_empty [] fs = fs
unless_empty (f ∷ rest) fs = f ∷ rest

-- the first fault of each part; of a channel's sides only if nothing else is wrong
abbrev pub faults_by_part : Program → List CheckFault
faults_by_part t = unless_empty (firsts (parts t)) (firsts (side_parts t))
