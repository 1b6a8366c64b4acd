use Rattle.kahn_board.proofs.Common.{◌≡◌, ◌≤◌, ◌+◌, ◌++◌, length, map, reverse, Some, vec_capacity}
use Rattle.kahn_board.proofs.turn.into_slots.Given as goal

abbrev pub invariant-loop-cell : goal.invariant-loop-cell
invariant-loop-cell g l = (l.slots.items ++ map Some (reverse l.cells.items) ≡ map Some (reverse l.initial.cells.items)) × (length l.slots.items + length l.cells.items ≤ vec_capacity l.slots) × (vec_capacity l.cells ≡ vec_capacity l.initial.cells)

abbrev pub decreases-loop-cell : goal.decreases-loop-cell
decreases-loop-cell g l = length l.cells.items
