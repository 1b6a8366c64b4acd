use Rattle.kahn_check.proofs.Common.{rules, ◌≡◌, Ok, verdict, faults_in, kind_of}
use Rattle.kahn_check.proofs.Walk.{list_start, level_listed, level_kinds}
use Rattle.kahn_streams.specs.declared.tree.Form.TheViews.{the_lemmas}
use Rattle.kahn_check.proofs.expression.+kind.Goals as goal

pub loop-operand-init : goal.loop-operand-init
loop-operand-init t c =
    let first = c.in-Level.first.value in
    let was : Ok c.in_ok-before-in-Level.before ≡ verdict (faults_in c.args.scope.now first.form) (kind_of c.args.scope.now first.form) = search (rules, the_lemmas) in
    let h = list_start c.args.scope.now (faults_in c.args.scope.now first.form) (kind_of c.args.scope.now first.form) c.in_ok-before-in-Level.before first.span c.deref-operand-items.result.now was in
    search (rules, the_lemmas, level_listed, level_kinds, h)
