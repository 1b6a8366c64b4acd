use Rattle.kahn_board.proofs.Joined.{Joining}
use Rattle.kahn_board.proofs.turn.join_rest.Given as goal

abbrev pub invariant-loop-other : goal.invariant-loop-other
invariant-loop-other g l = Joining l.fn.board.table.shared.table_id l.fn.first l.fn.others.items l.seat l.others.items

abbrev pub decreases-loop-other : goal.decreases-loop-other
decreases-loop-other g l = goal.left-loop-other g l
