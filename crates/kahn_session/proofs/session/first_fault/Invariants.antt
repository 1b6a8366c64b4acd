-- None of the ends so far is a fault.
use Rattle.kahn_session.proofs.Common.{◌≡◌, ◌+◌, suc, length, first_faulted}
use Rattle.kahn_session.proofs.session.first_fault.Given as goal

abbrev pub invariant-ends : goal.invariant-ends
invariant-ends l = (l.number + length l.rest ≡ length l.ends) × (first_faulted 1 l.ends ≡ first_faulted (suc l.number) l.rest)

abbrev pub decreases-ends : goal.decreases-ends
decreases-ends l = length l.rest
