use Rattle.kahn_needs.specs.inner.Bench.{AreUnmoved}
use Rattle.kahn_needs.proofs.bench.named_cells.Given as goal

abbrev pub ghost-new : goal.ghost-new
ghost-new g a = g.input

abbrev pub invariant-loop-instance : goal.invariant-loop-instance
invariant-loop-instance g l = AreUnmoved l.network g.input l.watch l.cells.items l.instance
