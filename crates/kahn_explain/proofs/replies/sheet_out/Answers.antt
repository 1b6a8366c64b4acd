use Rattle.kahn_explain.proofs.Common.{subst, sym, HasReplied}
use Rattle.kahn_explain.proofs.Sheets.{refused_reply}
use Rattle.kahn_explain.proofs.replies.sheet_out.Goals as goal

pub returns-in-Err : goal.returns-in-Err
returns-in-Err g c = refused_reply c.args.of c.args.kind c.args.config _ _ _ _ c.in-Err.ensures
