use Rattle.kahn_board.proofs.Common.{sym, ◌∙◌}
use Rattle.kahn_board.proofs.Left.{missed}
use Rattle.kahn_board.proofs.turn.claim.Goals as goal

pub returns-clause-missed : goal.returns-clause-missed
returns-clause-missed g c out = (missed g.T.Reports.told g.T.Reports.after c.args.board.now.table.shared.key c.args.seat.now c.claim.new.self c.args.p c.claim.result c.claim.ensures (sym c.is_some.ensures ∙ out)).0

pub returns-clause-late : goal.returns-clause-late
returns-clause-late g c out = (missed g.T.Reports.told g.T.Reports.after c.args.board.now.table.shared.key c.args.seat.now c.claim.new.self c.args.p c.claim.result c.claim.ensures (sym c.is_some.ensures ∙ out)).1
