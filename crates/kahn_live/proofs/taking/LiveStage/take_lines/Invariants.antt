-- As many lines were read and met as have numbers below this one.
use Rattle.kahn_live.proofs.Common.{option_copied, ◌≡◌, ℕ, false, suc, reader_remaining, point_of, AreRead}
use Rattle.kahn_live.proofs.taking.LiveStage.take_lines.Given as goal

abbrev pub invariant-loop-number : goal.invariant-loop-number
invariant-loop-number g l = (l.self.session.broken ≡ false)
    × ((n : ℕ) × (l.number ≡ suc n)
    × AreRead (option_copied l.input) n (reader_remaining g.I.Read.remaining l.initial.reader) (reader_remaining g.I.Read.remaining l.reader)
    (point_of g.W.Write.contents g.E.Write.contents l.initial.self) (point_of g.W.Write.contents g.E.Write.contents l.self))
