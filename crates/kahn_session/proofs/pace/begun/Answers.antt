use Rattle.kahn_session.proofs.Common.{arith, ◌≡◌, ◌<◌, List, Some, length, subst, sym, slice_get, slice_index_or, slice_get-get_or, Line, Channel}
use Rattle.kahn_session.proofs.Showing.{begun_next, within_lines}
use Rattle.kahn_session.proofs.pace.begun.Goals as goal

pub loop-line-preserved : goal.loop-line-preserved
loop-line-preserved c =
    let lines = c.args.lines.now in
    let i = c.loop-line.line-index in
    let below : i < length lines = omega (arith, c.loop-line-test.true, c.loop-line.auto.line-index-end) in
    record {
      each = begun_next c.args.run.now.flow lines i (slice_index_or lines i (Channel 0)) c.fresh-fresh.result.now.items c.requires (slice_get-get_or lines i (Channel 0) below) c.fresh-fresh.ensures c.loop-line.invariant.each;
    }

pub returns : goal.returns
returns c = λ j line at.
    let here = subst (λ (l : List Line). slice_get l j ≡ Some line) (sym c.requires) at in
    c.loop-line.invariant.each j line (within_lines c.args.lines.now j line c.loop-line.line-index here c.loop-line-test.false) here
