-- The pieces so far and the values that are left are all values.
use Rattle.kahn_texts.proofs.Common.{◌≡◌, ◌++◌, length, flat_map, piece_text}
use Rattle.kahn_texts.proofs.several.pieces_of.Given as goal

abbrev pub invariant-loop-rest : goal.invariant-loop-rest
invariant-loop-rest l = flat_map piece_text l.pieces.items ++ piece_text l.rest ≡ piece_text l.fn.values

abbrev pub decreases-loop-rest : goal.decreases-loop-rest
decreases-loop-rest l = length l.rest
