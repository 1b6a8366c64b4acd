-- The pieces so far went out, by at most as many writes.
use Rattle.kahn_texts.proofs.Common.{◌+◌, ◌≤◌, length, take, flat_map, Appends}
use Rattle.kahn_texts.proofs.bytes.put_all.Given as goal

abbrev pub invariant-loop-piece : goal.invariant-loop-piece
invariant-loop-piece g l = record {
  gone : Appends (g.W.Write.contents l.initial.writer) (g.W.Write.contents l.writer) (flat_map (λ piece. piece.now) (take l.piece-index l.pieces));
  few : g.C.CallCount.count l.writes ≤ g.C.CallCount.count l.initial.writes + length (flat_map (λ piece. piece.now) (take l.piece-index l.pieces));
}
