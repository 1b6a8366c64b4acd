-- A seat at its board.
use Rattle.kahn_board.proofs.Common.{◌≡◌, sym, subst, Wires, wired, Sat, after_step, Board, Seat}
use Rattle.kahn_board.proofs.{Seats.fit, Seconds.Fit}

module _ {T : Type 0} where
  pub placed : (b : Board T) (s : Seat T) → s.seat.table_id ≡ b.table.shared.table_id → Fit (wired b.table.shared.key) s.seat.me
  placed b s same = fit (wired b.table.shared.key) s.seat.me s.seat.table_id b.table.shared.table_id s.held.items _ b.instances b.channels s.facts same b.sized b.counts

  -- and after a step that told it nothing
  pub noted : (w : Wires) (m n : Sat T) → n ≡ (after_step m.0, m.1) → Fit w m → Fit w n
  noted w m n is f = subst (Fit w) (sym is) record { alive = f.alive; hands_long = f.hands_long; flushed_long = f.flushed_long; got_long = f.got_long }
