use Rattle.kahn_board.proofs.Common.{◌≡◌, ◌≤◌, ◌+◌, ◌++◌, List, length, map, reverse, Some, vec_capacity}
use Rattle.kahn_board.proofs.turn.out_of_slots.Given as goal

abbrev pub invariant-loop-slot : goal.invariant-loop-slot
invariant-loop-slot g l = ((xs : List _) × (l.slots.items ≡ map Some xs) × (l.slots.items ++ map Some (reverse l.cells.items) ≡ l.initial.slots.items)) × (length l.slots.items + length l.cells.items ≤ vec_capacity l.cells)

abbrev pub decreases-loop-slot : goal.decreases-loop-slot
decreases-loop-slot g l = length l.slots.items
