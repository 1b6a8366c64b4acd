use Rattle.kahn_board.proofs.Joined.{join_one}
use Rattle.kahn_board.proofs.turn.join_rest.Goals as goal

pub loop-other-preserved : goal.loop-other-preserved
loop-other-preserved g c = join_one c.args.board.now.table.shared.table_id c.args.first c.args.others.items c.loop-other.seat c.loop-other.others.items c.join-seat.result c.in-Some.other c.pop.new.self.items c.loop-other.invariant c.in-Some.ensures.items c.join-seat.ensures.0.0 c.join-seat.ensures.1
