use Rattle.kahn_lane.proofs.Common.{arith, ◌≡◌, ap, length, subst, sym, None, worker_view, StandFrom, tokens_of, Segment}
use Rattle.kahn_lane.proofs.{LaneMoves.flushes, Places.tokens_alone}
use Rattle.kahn_lane.proofs.segments.Sender.flush_alone.Goals as goal

pub push_as-requires-clause-pushes : goal.push_as-requires-clause-pushes
push_as-requires-clause-pushes g c =
    let s = c.args.self.now in
    let segment : Segment g.row.A.Denot = record { tag = None; alone = c.pop.result; tokens = c.new.result } in
    let is : tokens_of segment ≡ s.current.items = tokens_alone segment s.current.items _ c.requires (omega (arith, s.current.ok.0)) c.pop.ensures.value in
    let same = ap length is in
    flushes _ _ _ segment s.stage s.writes
    (omega (arith, same, c.requires, s.current.ok.0), subst (StandFrom (worker_view s.worker).writes_on (worker_view s.worker).flushed) (sym is) (rw s.counted s.placed))
    (omega (arith, same, s.limited, s.counted, s.current.ok.0))
