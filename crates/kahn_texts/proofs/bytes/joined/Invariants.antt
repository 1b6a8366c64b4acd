-- The pieces so far stand at the front of the room.
use Rattle.std.proofs.Common.{◌≡◌, ◌≤◌, length, take, flat_map}
use Rattle.kahn_texts.proofs.bytes.joined.Given as goal

abbrev pub invariant-loop-piece : goal.invariant-loop-piece
invariant-loop-piece l = record {
  within : l.end ≤ length l.room;
  placed : take l.end l.room ≡ flat_map (λ piece. piece.now) (take l.piece-index l.pieces);
}
