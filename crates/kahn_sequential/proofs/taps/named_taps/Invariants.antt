use Rattle.kahn_sequential.proofs.Common.{◌≡◌, map, replicate, nothing_gone, AreOpeningCells, gone_in, told_in}
use Rattle.kahn_sequential.proofs.taps.named_taps.Given as goal

abbrev pub ghost-new : goal.ghost-new
ghost-new g a = g.input

abbrev pub invariant-loop-instance : goal.invariant-loop-instance
invariant-loop-instance g l = record {
  opening : AreOpeningCells l.network g.input l.watch (map told_in l.taps.items) l.instance;
  whole : map gone_in l.taps.items ≡ replicate l.instance nothing_gone;
}
