use Rattle.kahn_explain.proofs.Common.{refl, subst, sym, HasReplied, IsTableAsked}
use Rattle.kahn_explain.proofs.Sheets.{no_reply}
use Rattle.kahn_explain.specs.declared.running.Sheet.TheVariants.{Needs}
use Rattle.kahn_explain.proofs.replies.asked_out.Goals as goal

pub returns-in-Err : goal.returns-in-Err
returns-in-Err g c = no_reply c.args.of (Needs c.args.wakes) c.args.config c.args.it.now _ _ _ c.in-Err.fault c.requires refl c.in-Err.ensures
