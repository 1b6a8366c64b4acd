-- The members of the groups so far were told, and are all there.
use Rattle.kahn_expected.proofs.Common.{All, Contains, flat_map, members, ◌≡◌}
use Rattle.kahn_expected.proofs.groups.find_groups.Given as goal

abbrev pub invariant-loop-group : goal.invariant-loop-group
invariant-loop-group l = (l.told.items ≡ flat_map members l.groups.items) × All (Contains l.classes) l.told.items
