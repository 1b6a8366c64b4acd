-- Of the classes so far those were told that may come.
use Rattle.kahn_expected.proofs.Common.{AllMayCome, IsToldIfItComes, List, terminals, ℕ}
use Rattle.kahn_expected.proofs.Classes.{Grown}
use Rattle.kahn_expected.proofs.found.coming.Given as goal

abbrev pub invariant-loop-class : goal.invariant-loop-class
invariant-loop-class l = (text : List ℕ) → Grown (AllMayCome (terminals text l.before)) (IsToldIfItComes (terminals text l.before)) l.some l.class-index l.wanted.items
