use Rattle.std.proofs.Common.{arith}
use Rattle.std.proofs.lemmas.Grind.{common_steps}
use Rattle.kahn_chain.proofs.reason.standings.Goals as goal

pub loop-end-preserved : goal.loop-end-preserved
loop-end-preserved c = grind (arith, common_steps, c.loop-end.invariant, c.in_ok-push.ensures.items, c.standing_of.ensures)

pub returns : goal.returns
returns c = grind (arith, common_steps, c.loop-end.invariant)
