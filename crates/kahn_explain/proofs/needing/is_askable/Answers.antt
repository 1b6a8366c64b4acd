use Rattle.std.proofs.lemmas.Bool.{iff_false}
use Rattle.kahn_explain.proofs.Worded.{askable_given, askable_made}
use Rattle.kahn_explain.proofs.needing.is_askable.Goals as goal

pub returns-then-is_given : goal.returns-then-is_given
returns-then-is_given c = askable_given c.args.network.now c.args.line c.args.wakes (c.is_given.ensures.0 c.if-is_given.true)

pub returns : goal.returns
returns c = askable_made c.args.network.now c.args.line c.args.wakes (iff_false c.is_given.ensures c.if-is_given.false)
