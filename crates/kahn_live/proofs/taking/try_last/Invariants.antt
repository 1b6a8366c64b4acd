-- Whatever holds of the lines that are left holds of all, and nothing was told.
use Rattle.kahn_live.proofs.Common.{◌≡◌, List, ℕ, drop, map, string_bytes, TakeFault, telling_of, IsFirstUnmeant, AreMeant}
use Rattle.kahn_live.proofs.taking.try_last.Given as goal

abbrev pub invariant-loop-line : goal.invariant-loop-line
invariant-loop-line g l =
    let s = l.session in
    let all = map string_bytes l.lines in
    let rest = map string_bytes (drop l.line-index l.lines) in
    (telling_of g.E.Write.contents l.teller ≡ telling_of g.E.Write.contents l.initial.teller)
    × (AreMeant s rest → AreMeant s all)
    × ((line : List ℕ) (f : TakeFault) → IsFirstUnmeant s rest line f → IsFirstUnmeant s all line f)
