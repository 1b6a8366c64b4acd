-- Each class so far is among those.
use Rattle.std.proofs.Common.{All, Contains, take}
use Rattle.kahn_expected.proofs.groups.are_within.Given as goal

abbrev pub invariant-loop-class : goal.invariant-loop-class
invariant-loop-class l = All (Contains l.classes) (take l.class-index l.some)
