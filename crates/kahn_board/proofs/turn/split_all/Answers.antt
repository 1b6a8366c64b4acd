use Rattle.kahn_board.proofs.Common.{arith, length, ap}
use Rattle.kahn_board.proofs.Joined.{split_one, split_all}
use Rattle.kahn_board.proofs.turn.split_all.Goals as goal

pub loop-preserved : goal.loop-preserved
loop-preserved g c = let i = c.loop.invariant in let is = c.push_reserved.ensures.items in (
  split_one c.args.board.now.table.shared.table_id c.args.seat c.loop.seats.items c.loop.first c.push_reserved.new.self.items c.in-Ok-split.kept c.in-Ok-split.second i.0 is (omega (arith, i.0.parts.0, c.requires.lone.2, i.1, c.loop-test.true, c.requires.few)) c.in-Ok-split.ensures.made,
  omega (arith, ap length is, i.1, c.push_reserved.ensures.len),
  omega (arith, i.2, c.push_reserved.ensures.capacity),
)

pub returns-clause-each : goal.returns-clause-each
returns-clause-each g c = (split_all c.args.board.now.table.shared.table_id c.args.seat c.loop.seats.items c.loop.first c.push_reserved-2.new.self.items c.loop.invariant.0 c.push_reserved-2.ensures.items).0
