use Rattle.kahn_pool.proofs.Common.{arith, ◌≡◌, ◌∙◌, List, Some, ap, length, slice_get, subst, length-map, CellView, told_in}
use Rattle.kahn_pool.proofs.Handing.{handed, none_gone, same_places}
use Rattle.kahn_pool.proofs.running.hand_over.Goals as goal

pub seat-requires-clause-count : goal.seat-requires-clause-count
seat-requires-clause-count c =
    let l = length-map c.into_taps-vacant.result.1.items told_in in
    let n = c.stood.ensures.laid.count in
    let k = ap (λ (cs : List CellView). length cs) c.into_taps-vacant.ensures.cells in
    let m = c.requires.jobs.count in
    omega (arith, l, n, k, m)

pub seat-requires-clause-places : goal.seat-requires-clause-places
seat-requires-clause-places c p d e of_d of_e =
    same_places c.args.bench c.stood.ensures.laid c.args.idles.items c.requires.jobs p d e of_d
    (subst (λ (cs : List CellView). slice_get cs p ≡ Some e) c.into_taps-vacant.ensures.cells of_e)

pub seat-requires-clause-whole : goal.seat-requires-clause-whole
seat-requires-clause-whole c = none_gone c.into_taps-vacant.result.1.items _ (c.into_taps-vacant.ensures.gone ∙ c.requires.whole)

pub returns-clause-cells : goal.returns-clause-cells
returns-clause-cells c = c.seat.ensures.cells ∙ c.into_taps-vacant.ensures.cells

pub returns-clause-held : goal.returns-clause-held
returns-clause-held c =
    handed c.args.bench c.stood.ensures.laid c.args.idles.items c.requires.jobs c.seat.new.idles.items c.seat.ensures.rows
    (c.seat.ensures.cells ∙ c.into_taps-vacant.ensures.cells) c.stood.ensures.each
