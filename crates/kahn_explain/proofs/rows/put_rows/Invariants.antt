-- Each place so far has a value.
use Rattle.kahn_explain.proofs.Common.{◌≤◌, IsSeeking, inputs_of, network_of, AreRows}
use Rattle.kahn_explain.specs.Running.{HasSentSome}
use Rattle.kahn_explain.proofs.rows.put_rows.Given as goal

abbrev pub invariant-loop-place : goal.invariant-loop-place
invariant-loop-place g l = record {
  same : IsSeeking l.fn.seeker.network l.fn.seeker.input l.fn.seeker.line l.seeker.next l.seeker;
  sent : HasSentSome (g.W.Write.contents l.initial.out) (g.W.Write.contents l.out);
  next : l.seeker.next ≤ l.place;
  rows : AreRows (network_of l.fn.seeker.network) (inputs_of l.fn.seeker.input) l.fn.seeker.line l.place;
}
