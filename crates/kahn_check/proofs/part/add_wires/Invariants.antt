use Rattle.kahn_check.proofs.Common.{drop, as_lines}
use Rattle.kahn_check.proofs.Told.{AreWired}
use Rattle.kahn_check.proofs.part.add_wires.Given as goal

abbrev pub invariant-loop-name : goal.invariant-loop-name
invariant-loop-name l =
    AreWired l.writers l.readers (as_lines l.kind l.role (drop l.name-index l.name-items)) l.wires.items l.faults.items (as_lines l.kind l.role l.name-items) l.fn.wires.items l.fn.faults.items
