-- What went out so far.
use Rattle.kahn_explain.specs.Running.{HasSentSome}
use Rattle.kahn_explain.proofs.tracing.Trace.put.Given as goal

abbrev pub invariant-loop-place : goal.invariant-loop-place
invariant-loop-place g l = HasSentSome (g.W.Write.contents l.initial.out) (g.W.Write.contents l.out)
