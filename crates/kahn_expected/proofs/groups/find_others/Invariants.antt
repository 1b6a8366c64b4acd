-- Each class so far was told, or is among the others.
use Rattle.std.proofs.Common.{Contains}
use Rattle.kahn_expected.proofs.Classes.{Grown, IsAmong}
use Rattle.kahn_expected.proofs.groups.find_others.Given as goal

abbrev pub invariant-loop-class : goal.invariant-loop-class
invariant-loop-class l = Grown (Contains l.classes) (IsAmong l.told) l.classes l.class-index l.others.items
