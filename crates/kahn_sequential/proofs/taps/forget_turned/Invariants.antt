use Rattle.kahn_sequential.proofs.Common.{length, HaveChanged, AreSpentBut, IsSameTap}
use Rattle.kahn_sequential.proofs.taps.forget_turned.Given as goal

abbrev pub invariant-turned : goal.invariant-turned
invariant-turned l = record {
  stays : HaveChanged IsSameTap l.fn.taps.items l.taps.items;
  spent : AreSpentBut l.turned l.taps.items;
}

abbrev pub decreases-turned : goal.decreases-turned
decreases-turned l = length l.turned.instances.items
