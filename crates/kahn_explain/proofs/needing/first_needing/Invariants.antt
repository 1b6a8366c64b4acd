-- The values so far don't need it.
use Rattle.kahn_explain.proofs.Common.{ℕ, ◌≤◌, IsSeeking, ◌<◌, inputs_of, network_of, NeedsNot}
use Rattle.kahn_explain.proofs.needing.first_needing.Given as goal

abbrev pub invariant-loop-place : goal.invariant-loop-place
invariant-loop-place l = record {
  same : IsSeeking l.fn.seeker.network l.fn.seeker.input l.fn.seeker.line l.seeker.next l.seeker;
  next : l.seeker.next ≤ l.place;
  before : (i : ℕ) → i < l.place → NeedsNot (network_of l.fn.seeker.network) (inputs_of l.fn.seeker.input) l.fn.seeker.line l.input l.wanted i;
}
