-- How the searches of the streams so far ended, and the last search.
use Rattle.kahn_explain.proofs.Common.{inputs_of, network_of, AreFirstEnds}
use Rattle.kahn_explain.specs.inner.Told.{IsSeekerOf}
use Rattle.kahn_explain.proofs.needing.firsts.Given as goal

abbrev pub invariant-loop-number : goal.invariant-loop-number
invariant-loop-number l = record {
  ends : AreFirstEnds (network_of l.network) l.run.answer (inputs_of l.lists) l.at.0 l.at.1 l.number l.verdict;
  seeker : IsSeekerOf l.network l.lists l.seeker;
}
