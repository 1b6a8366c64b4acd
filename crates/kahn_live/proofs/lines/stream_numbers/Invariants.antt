-- The streams so far are those of the first names.
use Rattle.kahn_live.proofs.Common.{length, HaveStreams}
use Rattle.kahn_live.proofs.lines.stream_numbers.Given as goal

abbrev pub invariant-names : goal.invariant-names
invariant-names l = HaveStreams l.session.flow.run l.names l.numbers.items l.rest

abbrev pub decreases-names : goal.decreases-names
decreases-names l = length l.rest
