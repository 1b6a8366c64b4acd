-- All bytes so far are on the line.
use Rattle.std.proofs.Common.{◌≡◌, ◌+◌, ◌-◌, ◌≤◌, length}
use Rattle.kahn_diagnostic.specs.Marks.{left_of_line}
use Rattle.kahn_diagnostic.proofs.lines.near_end.Given as goal

abbrev pub invariant-bytes : goal.invariant-bytes
invariant-bytes l = record { low : l.from ≤ l.end; inside : l.end ≤ length l.text; near : l.end - l.from ≤ 81; passed : left_of_line l.text l.from ≡ (l.end - l.from) + left_of_line l.text l.end }

abbrev pub decreases-bytes : goal.decreases-bytes
decreases-bytes l = length l.text - l.end
