-- Inner. What the names of a program stand for, as the table keeps it.
use Rattle.std.specs.Prelude.{◌≡◌, ℕ, List, map, Option, None, Some}
use Rattle.std.specs.List.{AllByRecursion}
use Rattle.kahn_streams.specs.{declared.tree.Declaration.Declaration, Wires.process_at, Wiring.Global, Wiring.IsChannel, Wiring.IsProcess}
use Rattle.kahn_check.specs.declared.names.Entry.{Entry}
use Rattle.kahn_check.specs.declared.names.Entry.TheVariants as E

abbrev pub global_of : Entry → Global
global_of (E.Channel kind role) = IsChannel kind role
global_of (E.Process k p) = IsProcess p.now

abbrev pub option_global : Option Entry → Option Global
option_global None = None
option_global (Some e) = Some (global_of e)

abbrev pub known : List (List ℕ × Entry) → List (List ℕ × Global)
known es = map (λ e. (e.0, global_of e.1)) es

-- the number of a process is that of its declaration
abbrev pub IsPlaced : List Declaration → Entry → Type 0
IsPlaced ds (E.Channel kind role) = Unit {0}
IsPlaced ds (E.Process k p) = process_at ds k ≡ Some p.now

abbrev pub ArePlaced : List Declaration → List (List ℕ × Entry) → Type 0
ArePlaced ds es = AllByRecursion (λ e. IsPlaced ds e.1) es
