use Rattle.kahn_board.proofs.Common.{◌∙◌, ap, arith, belongs, wired, downs_of}
use Rattle.kahn_board.proofs.{Sole.reader_in, Sole.writer_in, Woken.woken_ready, Passed.passes, Placed.placed}
use Rattle.kahn_board.proofs.turn.publish.Goals as goal

pub set_down-requires-clause-held : goal.set_down-requires-clause-held
set_down-requires-clause-held g c = let b = c.args.board.now in let key = b.table.shared.key in let me = c.args.seat.now in let n = c.publish.new.self in let e = c.in-Some.ensures in let t = e.1.1.2 in let r = c.in-Some.reader in
    let owned = c.requires.holds.3 in
    let ready = woken_ready g.T.Reports.told (belongs g.T.Reports.after key) (wired key) me.seat.me n.seat.me c.count_up.new.self.seat.me n.seat.table_id n.held.items _ r t.0 c.args.channel c.args.count t.1 n.facts owned.owed t.4 c.count_up.ensures.1 in
    (ready.0.0, (ready.0.1.0, ready.0.1.1, ready.0.1.2, λ is_over. absurd (omega (arith, ap downs_of is_over))))

pub returns : goal.returns
returns g c = let b = c.args.board.now in let key = b.table.shared.key in let me = c.args.seat.now in let n = c.publish.new.self in let e = c.in-Some.ensures in let t = e.1.1.2 in let r = c.in-Some.reader in
    let owned = c.requires.holds.3 in
    let within = reader_in key.network.value c.args.channel r e.1.1.1 in
    let all = passes g.T.Reports.told (belongs g.T.Reports.after key) (wired key) me.seat.me n.seat.me c.count_up.new.self.seat.me c.set_down.new.self.seat.me c.args.p c.args.channel c.args.count r t.0 t.1 (placed b me c.requires.board) t.4 within c.count_up.ensures.1 c.set_down.ensures.1 c.set_down.ensures.2
    owned.mine (writer_in key.network.value c.args.channel c.args.p c.requires.writes.1) (omega (arith, c.requires.writes.0, b.counts.1)) c.requires.writes.1 in
    record {
      same = (c.set_down.ensures.0.0 ∙ (c.count_up.ensures.0.0 ∙ e.0.0), c.set_down.ensures.0.1 ∙ (c.count_up.ensures.0.1 ∙ e.0.1), all.2, all.3);
      holds = all.0;
      tells = all.1;
    }
