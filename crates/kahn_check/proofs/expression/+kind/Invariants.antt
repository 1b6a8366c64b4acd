use Rattle.kahn_check.proofs.Common.{◌≡◌, drop, verdict, faults_in, kind_of}
use Rattle.kahn_check.proofs.Walk.{list_faults, list_kind}
use Rattle.kahn_check.proofs.expression.+kind.Given as goal

abbrev pub invariant-loop-operand : goal.invariant-loop-operand
invariant-loop-operand l =
    let rest = drop l.operand-index l.operand-items in
    verdict (list_faults l.scope l.before l.done rest) (list_kind l.before rest) ≡ verdict (faults_in l.scope l.expression.form) (kind_of l.scope l.expression.form)
