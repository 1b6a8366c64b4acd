use Rattle.std.proofs.Common.{arith}
use Rattle.std.proofs.lemmas.Grind.{common_steps}
use Rattle.kahn_web.proofs.whole.written.Goals as goal

pub loop-channel-preserved : goal.loop-channel-preserved
loop-channel-preserved c = grind (arith, common_steps, c.loop-channel.invariant, c.in_ok-put_count.ensures, c.in_ok-put_history.ensures)

pub returns : goal.returns
returns c = grind (arith, common_steps, c.loop-channel.invariant, c.in_ok-write_report.ensures, c.channels-channel-end.ensures)
