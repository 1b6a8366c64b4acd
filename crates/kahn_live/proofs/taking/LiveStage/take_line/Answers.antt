use Rattle.std.proofs.Common.{refl}
use Rattle.kahn_live.proofs.Meeting.{line_met, settled_by, still_whole}
use Rattle.kahn_live.proofs.taking.LiveStage.take_line.Goals as goal

pub tell_answer-requires : goal.tell_answer-requires
tell_answer-requires g c = settled_by c.args.line.now _ _ _ _ c.take-answer.result c.take-answer.ensures.taken c.take-answer.ensures.broken

pub returns : goal.returns
returns g c = record {
  broken = still_whole c.args.number c.args.line.now c.take-answer.result _ _ c.tell_answer.result c.take-answer.ensures.broken c.tell_answer.ensures;
  met = line_met c.args.number c.args.line.now c.take-answer.result _ _ _ c.tell_answer.result refl c.take-answer.ensures.taken c.tell_answer.ensures;
}
