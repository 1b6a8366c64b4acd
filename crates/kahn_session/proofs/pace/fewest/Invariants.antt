-- The least so far, and of the streams that are left, is that of all.
use Rattle.kahn_session.proofs.Common.{◌≡◌, length, fewest, next_of}
use Rattle.kahn_session.proofs.pace.fewest.Given as goal

abbrev pub invariant-columns : goal.invariant-columns
invariant-columns l = fewest (next_of l.run) l.least l.rest ≡ fewest (next_of l.run) l.first l.columns

abbrev pub decreases-columns : goal.decreases-columns
decreases-columns l = length l.rest
