use Rattle.kahn_check.proofs.Common.{◌≡◌, drop, verdict, body_faults}
use Rattle.kahn_check.proofs.statement.body.Given as goal

abbrev pub invariant-loop-it : goal.invariant-loop-it
invariant-loop-it l =
    verdict (body_faults l.scope (drop l.it-index l.statements)) (tt {0}) ≡ verdict (body_faults l.scope l.statements) (tt {0})
