use Rattle.std.proofs.Common.{slice_set}
use Rattle.kahn_code.proofs.Common.{arith, ◌<◌, ◌≤◌, ◌++◌, ap, ◌∙◌, length, map, slice_index_or, drop_all, take_all, map_over_more, append-nil, regrown_tap}
use Rattle.kahn_code.proofs.Lists.{changed_next}
use Rattle.kahn_code.proofs.cell.regrow_all.Goals as goal

pub loop-number-preserved : goal.loop-number-preserved
loop-number-preserved g c =
    let old = c.args.taps.now.items in
    let lt : c.loop-number.number < length old = omega (arith, c.loop-number-test.true, c.len-number-end.ensures, c.args.taps.now.ok.0) in
    ap (slice_set c.loop-number.taps.items c.loop-number.number) c.regrow.ensures
    ∙ map_over_more (regrown_tap g.input) old c.loop-number.taps.items c.loop-number.number c.index_mut.result.now lt c.loop-number.invariant c.index_mut.ensures.value

pub regrow-requires : goal.regrow-requires
regrow-requires g c κs within =
    let old = c.args.taps.now.items in
    let i = c.loop-number.number in
    let lt : i < length old = omega (arith, c.loop-number-test.true, c.len-number-end.ensures, c.args.taps.now.ok.0) in
    (within, c.requires.1 i _ (changed_next (regrown_tap g.input) old i c.index_mut.result.now lt (c.index_mut.ensures.value ∙ ap (λ l. slice_index_or l i c.index_mut.result.now) c.loop-number.invariant)))

pub returns : goal.returns
returns g c =
    let old = c.args.taps.now.items in
    let n = c.loop-number.number in
    let far : length old ≤ n = omega (arith, c.loop-number-test.false, c.len-number-end.ensures, c.args.taps.now.ok.0) in
    c.loop-number.invariant ∙ (λ j. map (regrown_tap g.input) (take_all n old far j) ++ drop_all n old far j) ∙ append-nil _
