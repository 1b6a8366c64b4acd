use Rattle.kahn_diagnostic.proofs.Common.{arith}
use Rattle.std.proofs.lemmas.Grind.{common_steps}
use Rattle.kahn_diagnostic.proofs.rendering.render_in.Goals as goal

pub loop-sentence-preserved : goal.loop-sentence-preserved
loop-sentence-preserved c = grind (arith, common_steps, c.loop-sentence.invariant, c.in_ok-add_remark.ensures)

pub loop-other-preserved : goal.loop-other-preserved
loop-other-preserved c = grind (arith, common_steps, c.loop-other.invariant, c.in_ok-add_marked.ensures)
