-- Whatever is made of the lines that are left is made of all, and no byte was written.
use Rattle.kahn_live.proofs.Common.{◌≡◌, ℕ, List, false, drop, map, Live, TakeFault, point_of, AreFedIn, AreFedUpTo, bytes_in}
use Rattle.kahn_live.proofs.taking.LiveStage.feed_cells.Given as goal

abbrev pub invariant-loop-cell : goal.invariant-loop-cell
invariant-loop-cell g l =
    let old = point_of g.W.Write.contents g.E.Write.contents l.initial.self in
    let new = point_of g.W.Write.contents g.E.Write.contents l.self in
    let all = map bytes_in l.cells in
    let rest = map bytes_in (drop l.cell-index l.cells) in
    (new.session.broken ≡ false)
    × (new.out ≡ old.out)
    × (new.told ≡ old.told)
    × ((s : Live) → AreFedIn rest new.session s → AreFedIn all old.session s)
    × ((cell : List ℕ) (f : TakeFault) (s : Live) → AreFedUpTo rest cell f new.session s → AreFedUpTo all cell f old.session s)
