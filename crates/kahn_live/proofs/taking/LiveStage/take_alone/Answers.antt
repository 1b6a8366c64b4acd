use Rattle.kahn_live.proofs.Common.{option_copied, point_of, fed_text}
use Rattle.kahn_live.proofs.Rowing.{alone_met}
use Rattle.kahn_live.proofs.taking.LiveStage.take_alone.Goals as goal

pub returns-clause-met : goal.returns-clause-met
returns-clause-met g c =
    let old = point_of g.W.Write.contents g.E.Write.contents c.args.self.now in
    let new = point_of g.W.Write.contents g.E.Write.contents c.take_line.new.self in
    alone_met c.args.number (fed_text (option_copied c.args.input) c.args.line.now) c.in-Ok.fed.now old new c.take_line.result c.in-Ok.ensures c.take_line.ensures.met
