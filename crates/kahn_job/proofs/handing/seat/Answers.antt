use Rattle.kahn_job.proofs.Common.{[], arith, length, List, ◌∷◌, ◌++◌, sym, ap, ◌∙◌, length-set, Tapped, append_assoc, length-append}
use Rattle.kahn_job.proofs.Seated.{cells_more, rows_stay, same_more, tap_in}
use Rattle.kahn_job.proofs.handing.seat.Goals as goal

pub into_cell-requires : goal.into_cell-requires
into_cell-requires c =
    let done = c.loop-tap.yielded in
    let split = c.loop-tap.invariant.3 ∙ ap (λ (l : List Tapped). done ++ l) c.in-Some.ensures.steps.0 in
    c.requires.whole (length done) c.in-Some.tap (tap_in c.args.taps.items done c.next.new.self.rest.items c.in-Some.tap split)

pub loop-tap-preserved : goal.loop-tap-preserved
loop-tap-preserved c =
    let i = c.loop-tap.invariant in
    let done = c.loop-tap.yielded in
    let x = c.in-Some.tap in
    let rest = c.next.new.self.rest.items in
    let d = c.index_mut.result.now in
    let n = c.loop-tap.instance in
    let ws = c.loop-tap.idles.items in
    let old = c.args.idles.now.items in
    let split = i.3 ∙ ap (λ (l : List Tapped). done ++ l) c.in-Some.ensures.steps.0 in
    let seated = c.seat.ensures ∙ ap (λ t. record d { cell = t }) c.into_cell.ensures in
    let w = c.seat.new.self in
    let one = length-append done (x ∷ []) in (
      tt,
      tt,
      omega (arith, i.2, one),
      split ∙ sym (append_assoc done (x ∷ []) rest),
      length-set ws n w ∙ i.4,
      rows_stay c.args.taps.items done rest old ws x n d split i.2 i.4 c.requires.count i.7 c.index_mut.ensures.value w seated i.5,
      cells_more c.args.taps.items done rest old ws x n d split i.2 i.4 c.requires.count i.7 c.index_mut.ensures.value w seated i.6,
      same_more c.args.taps.items done rest old ws x n d split i.2 i.4 c.requires.count i.7 c.index_mut.ensures.value w seated,
    )
