-- The pieces so far went out.
use Rattle.kahn_texts.proofs.Common.{take, flat_map, Appends, piece_text}
use Rattle.kahn_texts.proofs.several.put_texts.Given as goal

abbrev pub invariant-loop-number : goal.invariant-loop-number
invariant-loop-number g l = Appends (g.W.Write.contents l.initial.writer) (g.W.Write.contents l.writer) (flat_map piece_text (take l.number l.pieces))
