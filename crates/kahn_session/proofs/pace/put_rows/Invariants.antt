-- What isn't of the rows that are left went out.
use Rattle.kahn_session.proofs.Common.{◌≡◌, ℕ, ◌-◌, List, ◌++◌, Appends, next_of, rows_news}
use Rattle.kahn_session.proofs.pace.put_rows.Given as goal

abbrev pub invariant-loop-place : goal.invariant-loop-place
invariant-loop-place g l = (done : List ℕ)
    × (rows_news (next_of l.run) l.columns l.from (l.to - l.from) ≡ done ++ rows_news (next_of l.run) l.columns l.place (l.to - l.place))
    × Appends (g.W.Write.contents l.initial.writer) (g.W.Write.contents l.writer) done
