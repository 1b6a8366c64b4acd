use Rattle.kahn_check.proofs.Common.{◌≡◌, drop, verdict, faults_of, body_faults}
use Rattle.kahn_check.proofs.statement.+statement.Given as goal

abbrev pub invariant-loop-inner : goal.invariant-loop-inner
invariant-loop-inner l =
    verdict (body_faults l.scope (drop l.inner-index l.inner-items)) (tt {0}) ≡ verdict (faults_of l.scope l.it.action) (tt {0})
