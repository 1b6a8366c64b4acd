-- The values behind those that are left stand at the end of the room, and there is room for those in front of them.
use Rattle.kahn_texts.proofs.Common.{◌≡◌, ◌*◌, ◌≤◌, length, drop, flat_map}
use Rattle.kahn_texts.specs.inner.Layouts.{separated}
use Rattle.kahn_texts.proofs.write.place_values.Given as goal

abbrev pub invariant-loop-left : goal.invariant-loop-left
invariant-loop-left l =
    (l.left ≤ length l.values) × (21 * l.left ≤ l.start) × (l.start ≤ length l.room) × (drop l.start l.room ≡ flat_map (separated l.layout) (drop l.left l.values))

abbrev pub decreases-loop-left : goal.decreases-loop-left
decreases-loop-left l = l.left
