use Rattle.kahn_sequential.proofs.Turns.{advanced_none, moved_on}
use Rattle.kahn_sequential.proofs.rounds.Driver.rounds_together.Goals as goal

pub brief_round-requires : goal.brief_round-requires
brief_round-requires g c = c.loop.invariant.may

pub loop-preserved : goal.loop-preserved
loop-preserved g c = moved_on c.loop.invariant c.brief_round.ensures

pub loop-init : goal.loop-init
loop-init g c = advanced_none c.args.round.now c.requires
