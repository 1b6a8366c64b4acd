-- What isn't of the pieces that are left went out.
use Rattle.kahn_texts.proofs.Common.{◌≡◌, ℕ, List, ◌++◌, flat_map, Appends, chunks_rest, piece_text}
use Rattle.kahn_texts.proofs.several.put_pieces.Given as goal

abbrev pub invariant-loop-together : goal.invariant-loop-together
invariant-loop-together g l =
    (goal.iterator-loop-together g).can_next l.together-iterator
    × (goal.iterator-loop-together g).is_finite l.together-iterator
    × ((done : List ℕ)
    × (flat_map piece_text l.pieces ≡ done ++ flat_map piece_text (chunks_rest l.together-iterator))
    × Appends (g.W.Write.contents l.initial.writer) (g.W.Write.contents l.writer) done)
