use Rattle.kahn_check.proofs.Common.{rules, arith, ◌≡◌, Ok, ◌++◌, verdict, find, faults_in, kind_of, misused, wrong, kind_in, bytes_of, Out}
use Rattle.kahn_check.proofs.Walk.{row_listed, verdict_ok, verdict_err}
use Rattle.kahn_streams.specs.declared.tree.Action.TheViews.{the_lemmas}
use Rattle.kahn_check.proofs.statement.+statement.Goals as goal

pub loop-inner-init : goal.loop-inner-init
loop-inner-init t c = search (rules, the_lemmas, row_listed)

pub returns-in_err-wanted-in-Send : goal.returns-in_err-wanted-in-Send
returns-in_err-wanted-in-Send t c =
    let s = c.args.scope.now in
    let e = c.in-Send.expression in
    let n = c.in-Send.name in
    let mis = misused Out (find s (bytes_of n)) n.span in
    let was : verdict (faults_in s e.form) (kind_of s e.form) ≡ Ok c.in_ok-found-in-Send.found = search rules in
    let h = verdict_ok (faults_in s e.form) (mis ++ wrong (kind_in (find s (bytes_of n))) (kind_of s e.form) e.span) _ _ (tt {0}) was in
    let i = verdict_err mis (wrong (kind_in (find s (bytes_of n))) (kind_of s e.form) e.span) (kind_in (find s (bytes_of n))) (tt {0}) in
    grind (arith, h, i)
