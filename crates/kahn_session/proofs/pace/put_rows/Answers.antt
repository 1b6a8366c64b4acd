use Rattle.kahn_session.proofs.Common.{◌≤◌, ◌++◌, [], refl, rules, sym, subst, Appends, Appends-nil, Appends-trans, AppendsFront, fails, goes_on_front, stops, next_of, row_news}
use Rattle.kahn_session.proofs.Rows.{rows_done, rows_moved}
use Rattle.kahn_session.proofs.pace.put_rows.Goals as goal

pub loop-place-init : goal.loop-place-init
loop-place-init g c = ([], refl, Appends-nil _)

pub returns-in_err-put_row : goal.returns-in_err-put_row
returns-in_err-put_row g c =
    let (done, is, gone) = c.loop-place.invariant in
    let values = next_of c.args.run.now in
    fails _ _ _ _ c.from_residual.ensures.0
    (subst (AppendsFront _ _) (sym (rows_moved values c.args.columns.now c.loop-place.place c.args.to _ done c.loop-place-test.true is))
    (stops _ _ _ _ (goes_on_front _ _ _ done _ gone c.in_err-put_row.ensures)))

pub loop-place-preserved : goal.loop-place-preserved
loop-place-preserved g c =
    let (done, is, gone) = c.loop-place.invariant in
    let values = next_of c.args.run.now in (
      done ++ row_news values c.loop-place.place c.args.columns.now,
      rows_moved values c.args.columns.now c.loop-place.place c.args.to _ done c.loop-place-test.true is,
      Appends-trans _ _ _ done _ gone c.in_ok-put_row.ensures,
    )

pub returns : goal.returns
returns g c =
    let (done, is, gone) = c.loop-place.invariant in
    let values = next_of c.args.run.now in
    let past : c.args.to ≤ c.loop-place.place = search rules in
    subst (Appends _ _) (rows_done values c.args.columns.now c.loop-place.place c.args.to _ done past is) gone
