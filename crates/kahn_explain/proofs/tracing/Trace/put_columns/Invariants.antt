-- What went out so far.
use Rattle.kahn_explain.specs.Running.{HasSentSome}
use Rattle.kahn_explain.proofs.tracing.Trace.put_columns.Given as goal

abbrev pub invariant-loop-number : goal.invariant-loop-number
invariant-loop-number g l = HasSentSome (g.W.Write.contents l.initial.out) (g.W.Write.contents l.out)
