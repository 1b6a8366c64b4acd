use Rattle.kahn_explain.proofs.Common.{refl, true}
use Rattle.kahn_explain.proofs.Sheets.{no_reply}
use Rattle.kahn_explain.specs.declared.running.Sheet.TheVariants.{Table}
use Rattle.kahn_explain.proofs.replies.counts_out.Goals as goal

pub returns-in-Err : goal.returns-in-Err
returns-in-Err g c = no_reply c.args.of (Table true) c.args.config c.args.it.now _ _ _ c.in-Err.fault c.requires refl c.in-Err.ensures
