-- What isn't of the streams that are left went out.
use Rattle.kahn_session.proofs.Common.{◌≡◌, ℕ, ◌-◌, ◌≤◌, List, ◌++◌, length, map, Appends, lines_text}
use Rattle.kahn_session.proofs.Fresh.{rest_text}
use Rattle.kahn_session.proofs.pace.put_news.Given as goal

abbrev pub invariant-streams : goal.invariant-streams
invariant-streams g l = (done : List ℕ)
    × (lines_text l.network l.run.flow l.lines ≡ done ++ rest_text l.network l.run.flow.run l.lines (map length l.run.flow.out) l.from)
    × Appends (g.W.Write.contents l.initial.writer) (g.W.Write.contents l.writer) done × (l.from ≤ length l.lines)

abbrev pub decreases-streams : goal.decreases-streams
decreases-streams g l = length l.lines - l.from
