use Rattle.kahn_sequential.proofs.Turns.{advanced_none, moved_on}
use Rattle.kahn_sequential.proofs.rounds.Driver.brief_rounds.Goals as goal

pub loop-preserved : goal.loop-preserved
loop-preserved g c = moved_on c.loop.invariant c.next_rounds.ensures

pub loop-init : goal.loop-init
loop-init g c = advanced_none c.args.last c.requires
