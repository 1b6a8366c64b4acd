-- The one of the channels so far.
use Rattle.kahn_explain.specs.Untaken.{IsFullest}
use Rattle.kahn_explain.proofs.tracing.fullest.Given as goal

abbrev pub invariant-loop-next : goal.invariant-loop-next
invariant-loop-next l = IsFullest l.network l.counts l.next l.one
