use Rattle.kahn_explain.proofs.Worded.{no_line}
use Rattle.kahn_explain.proofs.needing.line_named.Goals as goal

pub returns-in-None-place_of : goal.returns-in-None-place_of
returns-in-None-place_of c = no_line c.args.network.now c.args.word.now c.in-None.ensures c.in-None-place_of.ensures
