-- Whatever is made of the lines that are left is made of all.
use Rattle.kahn_live.proofs.Common.{◌≡◌, false, drop, map, string_bytes, Fault, Point, point_of, AreFed, IsCutOff}
use Rattle.kahn_live.proofs.taking.LiveStage.take_last.Given as goal

abbrev pub invariant-loop-line : goal.invariant-loop-line
invariant-loop-line g l =
    let old = point_of g.W.Write.contents g.E.Write.contents l.initial.self in
    let new = point_of g.W.Write.contents g.E.Write.contents l.self in
    let all = map string_bytes l.lines in
    let rest = map string_bytes (drop l.line-index l.lines) in
    (l.self.session.broken ≡ false)
    × ((p : Point) → AreFed rest new p → AreFed all old p)
    × ((p : Point) (fault : Fault) → IsCutOff rest new p fault → IsCutOff all old p fault)
