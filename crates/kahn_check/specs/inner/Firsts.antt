-- Inner. The first fault of each part, as the walk finds them.
use Rattle.std.specs.Prelude.{◌≡◌, ℕ, List, [], ◌∷◌, ◌++◌, Option, None, Some, map}
use Rattle.kahn_streams.specs.{declared.tree.Declaration.Declaration, declared.tree.Instance.Instance, declared.tree.Process.Process, declared.tree.Program.Program, Wires.lines_of, Wires.process_at, Wires.shown, Wiring.Global, Wiring.IsChannel, Wiring.IsProcess, Wiring.declared_of, Wiring.entries, declared.fault.CheckFault.CheckFault}
use Rattle.kahn_check.specs.{Parts.faults_by_part, Parts.first_alone, Parts.firsts, Parts.name_parts, declared.names.Entry.Entry, declared.part.CheckWalk.CheckWalk, inner.Globals.ArePlaced, inner.Tables.meant}

abbrev pub first_fault : List CheckFault → Option CheckFault
first_fault [] = None
first_fault (f ∷ fs) = Some f

abbrev pub fault_alone : Option CheckFault → List CheckFault
fault_alone None = []
fault_alone (Some f) = f ∷ []

-- one that is there, or else the first of a list
abbrev pub first_then : Option CheckFault → List CheckFault → Option CheckFault
first_then None fs = first_fault fs
first_then (Some f) fs = Some f

-- the first fault of a part, if it has one, comes after those before
abbrev pub HasAddedFirst : List CheckFault → List CheckFault → List CheckFault → Type 0
HasAddedFirst p before after = after ≡ before ++ first_alone p

-- the table and the list of faults, where so many channels more may be declared, come out with what follows as those with 0 do with one declaration more
pub record HasTold (d : Declaration) (g0 : List (List ℕ × Global)) (room0 : ℕ) (fs0 : List CheckFault) (g : List (List ℕ × Global)) (room : ℕ) (fs : List CheckFault) : Type 0 where
  pub table : (rest : List Declaration) → g ++ entries (declared_of rest) ≡ g0 ++ entries (declared_of (d ∷ rest))
  pub told : (rest : List Declaration) → fs ++ firsts (name_parts g room (declared_of rest)) ≡ fs0 ++ firsts (name_parts g0 room0 (declared_of (d ∷ rest)))

-- ---- the processes of instances

abbrev pub made_of : Option Global → List (Option Process)
made_of None = []
made_of (Some (IsChannel kind role)) = []
made_of (Some (IsProcess p)) = Some p ∷ []

abbrev pub made_all : List (List ℕ × Global) → List Instance → List (Option Process)
made_all g [] = []
made_all g (x ∷ xs) = made_of (meant g x) ++ made_all g xs

-- where these processes are declared comes after those before
abbrev pub HaveNumbers : List (List ℕ × Entry) → List (Option Process) → List ℕ → List ℕ → Type 0
HaveNumbers g made before after = (ds : List Declaration) → ArePlaced ds g → map (process_at ds) after ≡ map (process_at ds) before ++ made

-- ---- the whole walk

pub record IsWalkOf (t : Program) (w : CheckWalk) : Type 0 where
  pub told : w.faults.items ≡ faults_by_part t
  pub lines : map shown w.wires.items ≡ lines_of t
  pub numbers : map (process_at t.declarations.items) w.processes.items ≡ made_all (entries (declared_of t.declarations.items)) t.instances.items
