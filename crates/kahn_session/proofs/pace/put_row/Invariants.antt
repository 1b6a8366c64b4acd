-- What isn't of the values that are left went out.
use Rattle.kahn_session.proofs.Common.{◌≡◌, ℕ, List, ◌++◌, length, Appends, next_of, row_news}
use Rattle.kahn_session.proofs.pace.put_row.Given as goal

abbrev pub invariant-columns : goal.invariant-columns
invariant-columns g l = (done : List ℕ)
    × (row_news (next_of l.run) l.place l.columns ≡ done ++ row_news (next_of l.run) l.place l.rest)
    × Appends (g.W.Write.contents l.initial.writer) (g.W.Write.contents l.writer) done

abbrev pub decreases-columns : goal.decreases-columns
decreases-columns g l = length l.rest
