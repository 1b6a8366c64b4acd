use Rattle.kahn_session.proofs.Common.{[], ◌≡◌, ◌∷◌, ◌++◌, refl, rules, sym, subst, slice_get, Appends-nil, Appends-trans, AppendsFront, fails, goes_on_front, stops, cell_news, next_of, row_stop}
use Rattle.kahn_session.proofs.Rows.{row_moved}
use Rattle.kahn_session.proofs.pace.put_row.Goals as goal

pub columns-init : goal.columns-init
columns-init g c = ([], refl, Appends-nil _)

pub returns-in_err-put_cell : goal.returns-in_err-put_cell
returns-in_err-put_cell g c =
    let (done, is, gone) = c.columns.invariant in
    let split : c.columns.rest.now ≡ c.in-Some.number.now ∷ c.in-Some.behind.now = search rules in
    let moved = row_moved (next_of c.args.run.now) c.args.place c.args.columns.now c.columns.rest.now c.in-Some.behind.now c.in-Some.number.now done split is in
    fails _ _ _ _ c.from_residual.ensures.0
    (subst (AppendsFront _ _) (sym moved) (stops _ _ _ _ (goes_on_front _ _ _ done _ gone (rw (c.next_at-value.ensures, c.row_stop.ensures) at c.in_err-put_cell.ensures))))

pub columns-preserved : goal.columns-preserved
columns-preserved g c =
    let (done, is, gone) = c.columns.invariant in
    let split : c.columns.rest.now ≡ c.in-Some.number.now ∷ c.in-Some.behind.now = search rules in (
      done ++ cell_news (slice_get (next_of c.args.run.now c.in-Some.number.now) c.args.place) (row_stop c.in-Some.behind.now),
      row_moved (next_of c.args.run.now) c.args.place c.args.columns.now c.columns.rest.now c.in-Some.behind.now c.in-Some.number.now done split is,
      Appends-trans _ _ _ done _ gone (rw (c.next_at-value.ensures, c.row_stop.ensures) at c.in_ok-put_cell.ensures),
    )
